use Rattle.std.proofs.Common.{◌≡◌, ℕ, List, [], get_or, set, replicate, sym, ◌∙◌, ap}
use Rattle.std.proofs.lemmas.List.{map-set, get_or-map, with_items_is}
use Rattle.vdr_outside.specs.Disk.{content, over}
use Rattle.vdr_memory.specs.Contents.{contents}
use Rattle.vdr_memory.proofs.contents.fill_at.Goals as goal

pub returns-then-m-media : goal.returns-then-m-media
returns-then-m-media c =
    let media = c.args.media.now in
    let m = c.args.m in
    let x = replicate c.args.count c.args.byte in
    let v = get_or media m c.index-media-m.result in
    let here : content (contents media) m ≡ v.items = get_or-map (λ v. v.items) media m c.index-media-m.result [] c.if-m-media.true in
    let bytes : c.fill.new.medium ≡ over (content (contents media) m) c.args.at x =
    c.fill.ensures ∙ ap (λ (b : List ℕ). over b c.args.at x) (c.deref_mut.ensures.value ∙ sym here) in
    map-set (λ v. v.items) media m _ ∙ ap (λ (b : List ℕ). set (contents media) m b) (with_items_is v c.fill.new.medium (c.fill.auto.medium ∙ c.deref_mut.ensures.len) ∙ bytes)
