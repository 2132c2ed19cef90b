use Rattle.std.proofs.Common.{◌≡◌, ◌-◌, ◌++◌, ◌∷◌, [], Some, sym, ap, ◌∙◌, subst, slice_index_or, slice_set, arith}
use Rattle.std.specs.List.{slice_get}
use Rattle.std.specs.Option.{option_to_list}
use Rattle.mapper_core.proofs.Merged.{index_get}
use Rattle.mapper_core.proofs.callers.merging.take_for.Goals as goal

pub unreachable-requires : goal.unreachable-requires
unreachable-requires c =
    let r = c.requires in
    let k : c.args.caller - 1 ≡ r.place = omega (arith, r.caller_is) in
    let here : slice_index_or c.args.queues.now (c.args.caller - 1) c.index-queues-place.result ≡ r.first ∷ r.rest =
    index_get c.args.queues.now (c.args.caller - 1) (r.first ∷ r.rest) c.index-queues-place.result (subst (λ z. slice_get c.args.queues.now z ≡ Some (r.first ∷ r.rest)) (sym k) r.there) in
    let none : slice_index_or c.args.queues.now (c.args.caller - 1) c.index-queues-place.result ≡ [] = c.in-None.ensures.none in absurd (cc (here, none))

pub returns : goal.returns
returns c =
    let r = c.requires in
    let k : c.args.caller - 1 ≡ r.place = omega (arith, r.caller_is) in
    let there = subst (λ z. slice_get c.args.queues.now z ≡ Some (r.first ∷ r.rest)) (sym k) r.there in
    let here : slice_index_or c.args.queues.now (c.args.caller - 1) c.index-queues-place.result ≡ r.first ∷ r.rest =
    index_get c.args.queues.now (c.args.caller - 1) (r.first ∷ r.rest) c.index-queues-place.result there in
    let taken : r.first ∷ r.rest ≡ c.in-Some.reply ∷ c.take.new.self = sym here ∙ c.take.ensures.first ∙ ap (λ z. option_to_list z ++ c.take.new.self) c.in-Some.is in
    record {
      place = r.place;
      caller_is = r.caller_is;
      rest = c.take.new.self;
      first = r.there ∙ ap (λ z. Some z) taken;
      left = ap (λ z. slice_set c.args.queues.now z c.take.new.self) k;
    }
