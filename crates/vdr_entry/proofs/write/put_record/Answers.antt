use Rattle.std.proofs.Common.{length, ap, sym, ◌∙◌, subst, arith}
use Rattle.vdr_terms.specs.Records.{Record}
use Rattle.vdr_terms.specs.Legality.{IsRecord}
use Rattle.vdr_entry.proofs.SpellingLemmas.{carried_size, carried_put}
use Rattle.vdr_entry.proofs.PayloadLemmas.{code_is, stamp_written}
use Rattle.vdr_entry.proofs.write.put_record.Goals as goal

pub put-requires : goal.put-requires
put-requires c = omega (arith, carried_size _ _ _ c.item.invariant c.item.view_is, c.requires)

pub put_u16-requires : goal.put_u16-requires
put_u16-requires c = omega (arith, carried_size _ _ _ c.item.invariant c.item.view_is, c.requires, c.put.auto.into)

pub put_u64s-requires : goal.put_u64s-requires
put_u64s-requires c = omega (arith, carried_size _ _ _ c.item.invariant c.item.view_is, c.requires, c.put.auto.into, c.put_u16.auto.into)

pub put-requires-2 : goal.put-requires-2
put-requires-2 c =
    omega (arith, carried_size _ _ _ c.item.invariant c.item.view_is, c.requires, c.put.auto.into, c.put_u16.auto.into, c.put_u64s.auto.into, ap length c.as_slice.ensures.value)

pub returns-clause-size : goal.returns-clause-size
returns-clause-size c = omega (arith, carried_size _ _ _ c.item.invariant c.item.view_is, c.len-len.ensures.value)

pub returns-clause-bytes : goal.returns-clause-bytes
returns-clause-bytes c =
    carried_put _ _ _ c.item.invariant c.item.view_is _ _ _ _ _ _ _ _ _ (c.code.ensures ∙ sym (code_is c.item.inside.kind c.item.inside.payload.items)) c.len-len.ensures.value
    (stamp_written c.item.inside.utc _ c.item.invariant.legal.utc c.unsigned_abs-stamp.ensures.value) c.as_slice.ensures.value c.requires
    c.put.ensures c.put_u16.ensures c.put_u64s.ensures c.put-2.ensures

pub returns-clause-legal : goal.returns-clause-legal
returns-clause-legal c = subst (λ (r : Record). IsRecord r) c.item.view_is c.item.invariant.legal
