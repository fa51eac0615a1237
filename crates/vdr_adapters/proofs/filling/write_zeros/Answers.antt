use Rattle.std.proofs.Common.{arith, ◌≡◌, ◌*◌, ◌-◌, ◌<◌, ◌∙◌, ℕ, ap, min, replicate}
use Rattle.std.proofs.lemmas.List.{take-replicate}
use Rattle.vdr_adapters.proofs.Zeros.{piece_more}
use Rattle.vdr_adapters.proofs.filling.write_zeros.Goals as goal

pub loop-piece-preserved : goal.loop-piece-preserved
loop-piece-preserved g c =
    let below : c.loop-piece.piece * 65536 < c.args.size = omega arith in
    let count : c.min-count.result ≡ min 65536 (c.args.size - c.loop-piece.piece * 65536) = omega arith in
    piece_more (g.F.MediumFile.seen c.args.file.now) (g.F.MediumFile.seen c.loop-piece.file) (g.F.MediumFile.seen c.write_all_at.new.self) c.loop-piece.piece c.args.size _ below
    (take-replicate c.min-count.result 65536 0 (omega arith) ∙ ap (λ (n : ℕ). replicate n 0) count) c.loop-piece.invariant c.write_all_at.ensures.call
