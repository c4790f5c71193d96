use Rattle.std.proofs.Common.{◌∙◌, None, rules, arith}
use Rattle.std.proofs.lemmas.List.Elements.{All-from_get_or, recursion_from_All}
use Rattle.pb_wire.specs.Ranges.{IsByte, AreBytes}
use Rattle.pb_find.specs.View.{found_view}
use Rattle.pb_find.proofs.FindLemmas.{is_found, text_is_read}
use Rattle.pb_find.proofs.WalkLemmas.{all_of}
use Rattle.pb_find.proofs.finding.found_in_message.Goals as goal

pub walk-requires : goal.walk-requires
walk-requires c =
    let most = c.max_bytes.ensures in
    record {
      can = record {
        rules = c.messages-types.ensures.rules;
        of_pool = c.requires;
        levels = c.max_depth-levels.ensures.small;
        small = (let size = c.if-bytes-max_bytes.false in omega (arith, most.small, size));
        own = c.target_of.ensures.own;
      };
      at_in_bounds = omega arith;
    }

pub returns-in_err-found-clause-none : goal.returns-in_err-found-clause-none
returns-in_err-found-clause-none c = λ _ v text.
    c.in_err-found.ensures (rw c.max_depth-levels.ensures.same (text_is_read c.args.pool.now c.args.message_type.0 c.args.limits c.args.bytes.now v text))

pub returns-clause-found : goal.returns-clause-found
returns-clause-found c =
    let range : AreBytes c.args.bytes.now = recursion_from_All IsByte c.args.bytes.now (All-from_get_or IsByte c.args.bytes.now 0 (λ i h. let fits = c.type_inv.bytes i in search (rules, fits))) in
    let most = c.max_bytes.ensures in
    let depth = c.max_depth-levels.ensures in
    let it = c.in_ok-found.ensures in
    let all = all_of c.args.pool.now c.args.message_type.0 _ c.args.bytes.now _ it.2 it.1 it.3 in
    is_found c.args.pool.now c.args.message_type.0 c.args.limits c.args.bytes.now c.args.path.now it.2 (found_view c.in_ok-found.found)
    c.messages-types.ensures.rules range (omega (arith, most.same)) (omega (arith, depth.same, depth.small)) all.0 (rw (depth.same) at all.1)
    (it.4 ∙ c.target_of.ensures.found None it.2)
