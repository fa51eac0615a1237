use Rattle.std.proofs.Common.{◌≡◌, ℕ, List, [], get_or, set, sym, ◌∙◌, ap}
use Rattle.std.proofs.lemmas.List.{map-set, get_or-map, with_items_is}
use Rattle.vdr_outside.specs.Disk.{content, over}
use Rattle.vdr_memory.specs.Contents.{contents}
use Rattle.vdr_memory.proofs.contents.overwrite_at.Goals as goal

pub returns-then-m-media : goal.returns-then-m-media
returns-then-m-media c =
    let media = c.args.media.now in
    let m = c.args.m in
    let v = get_or media m c.index-media-m.result in
    let here : content (contents media) m ≡ v.items = get_or-map (λ v. v.items) media m c.index-media-m.result [] c.if-m-media.true in
    let bytes : c.overwrite.new.medium ≡ over (content (contents media) m) c.args.at c.args.bytes.now =
    c.overwrite.ensures ∙ ap (λ (b : List ℕ). over b c.args.at c.args.bytes.now) (c.deref_mut.ensures.value ∙ sym here) in
    map-set (λ v. v.items) media m _ ∙ ap (λ (b : List ℕ). set (contents media) m b) (with_items_is v c.overwrite.new.medium (c.overwrite.auto.medium ∙ c.deref_mut.ensures.len) ∙ bytes)
