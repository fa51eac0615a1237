use Rattle.std.proofs.Common.{◌≡◌, inl, inr, ◌++◌, ◌∷◌, ℕ, List, [], Bool, true, false, Result, Ok, Err, ⊎_elim, ap, ◌∙◌, subst, append_assoc}
use Rattle.std.proofs.lemmas.Bool.{cases_Bool}
use Rattle.vdr_core.specs.Histories.{Event}
use Rattle.vdr_durability.specs.Keeping.{moment_of}
use Rattle.vdr_ring.specs.declared.refused.ReadRefused.{ReadRefused}
use Rattle.vdr_ring.specs.declared.refused.ReadRefused.TheVariants.{Fault}
use Rattle.vdr_vault.specs.Vaults.{IsReadable}
use Rattle.vdr_vault.proofs.Playing.{stands_to_read}
use Rattle.vdr_recorder.specs.Recordings.{RecorderState}
use Rattle.vdr_recorder.specs.declared.resume.Going.{Going}
use Rattle.vdr_recorder.specs.declared.resume.Going.TheVariants.{Gone}
use Rattle.vdr_recorder.proofs.Answering.{in_this_call}
use Rattle.vdr_reply.specs.Plays.{EndsTurn}
use Rattle.vdr_reply.proofs.Plays.{failed_played, goes_so}
use Rattle.vdr_reply.proofs.going_on.go_on.Goals as goal

not_gone : (went : Result Going ReadRefused) (place : ℕ) → went ≡ Ok (Gone place) → went ≡ Err Fault → ⊥
not_gone went place is fails = cc

pub returns-clause-went : goal.returns-clause-went
returns-clause-went g c = λ opening a later t0 told h waits.
    let r = c.args.recorder.now in
    let e = c.play_on_watched-went.ensures in
    let went = c.play_on_watched-went.result in
    let play = c.play_on_watched-went.new.play in
    let sent = c.play_on_watched-went.new.piece.bytes.items in
    let ended = c.end_turn.ensures in
    ⊎_elim
    (λ (fails : r.vault.failed ≡ true).
    let f = e.failed fails in
    let none : sent ≡ [] = ap (λ (p : _). p.bytes.items) f.1 ∙ c.requires.empty in
    goes_so r.vault.config.channels _ opening a later _ c.args.rest waits went play [] c.end_turn.new.piece.bytes.items c.end_turn.result e.asks
    (failed_played opening a.before waits.printed c.args.rest.play play went e.asks f.2 waits.playing)
    (λ place is. absurd (not_gone went place is f.2))
    (λ fault. inr (ap (λ (r : RecorderState). moment_of r.vault.failed (g.M.Media.disk c.play_on_watched-went.new.media).clock) f.0 ∙ ap (λ (b : Bool). moment_of b (g.M.Media.disk c.play_on_watched-went.new.media).clock) fails))
    (subst (λ (was : List ℕ). EndsTurn went play was c.end_turn.new.piece.bytes.items c.end_turn.result) none ended))
    (λ (works : r.vault.failed ≡ false).
    let standing = (h.works works).standing in
    let readable = stands_to_read opening _ r.vault standing.placed (g.M.Media.disk c.args.media.now) standing.stands in
    let behind : IsReadable opening (a.before ++ (a.own ∷ (a.during ++ later))) r.vault standing.placed (g.M.Media.disk c.args.media.now) =
    subst (λ (es : List Event). IsReadable opening es r.vault standing.placed (g.M.Media.disk c.args.media.now)) (append_assoc a.before (a.own ∷ a.during) later) readable in
    let p = e.played opening a.before (a.own ∷ (a.during ++ later)) standing.placed waits.printed told behind waits.playing in
    let more : sent ≡ p.0 = p.1 ∙ ap (λ (xs : List ℕ). xs ++ p.0) c.requires.empty in
    goes_so r.vault.config.channels _ opening a later _ c.args.rest waits went play p.0 c.end_turn.new.piece.bytes.items c.end_turn.result e.asks p.2
    (λ place is. e.lost opening _ standing.placed place told readable is)
    (λ fault. inl (in_this_call r.vault.failed _ works (e.looked.cause.in_all fault)))
    (subst (λ (was : List ℕ). EndsTurn went play was c.end_turn.new.piece.bytes.items c.end_turn.result) more ended))
    (cases_Bool r.vault.failed)
