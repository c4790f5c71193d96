use Rattle.std.proofs.Common.{◌++◌, ◌∷◌, [], List, ℕ, Option, ap, sym, ◌∙◌, append_assoc}
use Rattle.std.specs.Array.Iter.{array_into_iter_items}
use Rattle.pb_value.specs.declared.body.Content.{Content}
use Rattle.pb_descr_message.proofs.ContentLemmas.{written_more, put_there, put_absent, body_of_all}
use Rattle.pb_descr_message.proofs.contents.body.Goals as goal

pub loop-number-preserved-in-Some-content : goal.loop-number-preserved-in-Some-content
loop-number-preserved-in-Some-content g c =
    let whole = ap (λ (es : List (ℕ × Option Content)). c.loop-number.yielded ++ es) (sym c.in-Some.ensures.steps) ∙ c.loop-number.invariant.split in
    record {
      split = append_assoc c.loop-number.yielded ((c.in-Some.number, c.in-Some.content) ∷ []) (array_into_iter_items c.next.new.self) ∙ whole;
      written = written_more c.args.contents c.loop-number.yielded (array_into_iter_items c.next.new.self) (c.in-Some.number, c.in-Some.content) c.loop-number.fields.entries c.insert.new.self.entries
          whole c.requires.rising c.loop-number.invariant.written
          (put_there c.in-Some.number c.in-Some.content c.in-Some-content.content c.loop-number.fields.entries c.insert.new.self.entries c.in-Some-content.is c.in_ok-insert.ensures.entries);
    }

pub loop-number-preserved : goal.loop-number-preserved
loop-number-preserved g c =
    let whole = ap (λ (es : List (ℕ × Option Content)). c.loop-number.yielded ++ es) (sym c.in-Some.ensures.steps) ∙ c.loop-number.invariant.split in
    record {
      split = append_assoc c.loop-number.yielded ((c.in-Some.number, c.in-Some.content) ∷ []) (array_into_iter_items c.next.new.self) ∙ whole;
      written = written_more c.args.contents c.loop-number.yielded (array_into_iter_items c.next.new.self) (c.in-Some.number, c.in-Some.content) c.loop-number.fields.entries c.loop-number.fields.entries
          whole c.requires.rising c.loop-number.invariant.written (put_absent c.in-Some.number c.in-Some.content c.loop-number.fields.entries c.in_default.is);
    }

pub returns : goal.returns
returns g c =
    body_of_all c.args.contents c.loop-number.yielded (array_into_iter_items c.loop-number.number-iterator) c.loop-number.fields c.new-unknown.result c.loop-number.invariant.split c.in-None.ensures.steps.0
    c.new-unknown.ensures.items c.loop-number.invariant.written
