-- A line of JSON that goes out: a text, and then a line feed.
use Rattle.std.proofs.Common.{◌≡◌, ◌≤◌, ◌+◌, ℕ, List, [], ◌++◌, Option, false, min, length, take, arith, ap, inl, inr, refl, sym, ◌∙◌, subst}
use Rattle.std.specs.Io.KnownBytes.{Appends}
use Rattle.std.specs.Prelude.{Ok, Err}
use Rattle.std.proofs.KnownBytes.{Appends-nil, Appends-trans}
use Rattle.std.proofs.lemmas.List.{take_min, take-append-le}
use Rattle.std.proofs.Math.Seq.{take-append-add}
use Rattle.pb_wire.specs.declared.device.DeviceFault.{DeviceFault}
use Rattle.pb_value.specs.Dynamic.{Dynamic}
use Rattle.pb_output.specs.Sending.{Cut, Sent}
use Rattle.pb_output.specs.Sink.{Finishes}
use Rattle.pb_output.specs.declared.sink.Sink.{Sink}
use Rattle.pb_output.proofs.SinkLemmas.{finished}
use Rattle.pb_listing.specs.Putting.{PutsSome}
use Rattle.pb_json.specs.Answers.{RefusedAs}
use Rattle.pb_json.specs.declared.error.JsonError.{JsonError}
use Rattle.pb_json.specs.declared.error.JsonError.TheVariants as json_error
use Rattle.pb_json.specs.declared.form.Layout.{Layout}
use Rattle.pbtool_files.specs.Answer.{done}
use Rattle.pbtool_files.specs.Report.{output_name}
use Rattle.std.specs.Borrow.{Bor}
use Rattle.pb_json.specs.Given.{NamesGiven}
use Rattle.pbtool_command.specs.JsonAnswer.{IsJsonLine, JsonAnswer, has_form}
use Rattle.pbtool_command.specs.Steps.{Comes, FailsAt, IsNothing, NoFile, WritesLine}

module _ {D : Type 0} (written : D → Option (List ℕ)) (failures : D → ℕ) (old mid new : D) (xs ys : List ℕ) where
  -- one text after another
  pub sent_then : Sent written failures old mid xs → Sent written failures mid new ys → Sent written failures old new (xs ++ ys)
  sent_then first second = (second.0 ∙ first.0, Appends-trans (written old) (written mid) (written new) xs ys first.1 second.1)

  -- the device failed after the first
  pub sent_cut : Sent written failures old mid xs → Cut written failures mid new ys → Cut written failures old new (xs ++ ys)
  sent_cut first second =
      let n = second.1.0 in
      let both : Appends (written old) (written new) (xs ++ take n ys) =
      Appends-trans (written old) (written mid) (written new) xs (take n ys) first.1 second.1.1 in
      (λ same. second.0 (same ∙ sym first.0), (length xs + n, subst (Appends (written old) (written new)) (sym (take-append-add xs ys n)) both))

-- a prefix of a text is one of what goes on with it
pub cut_longer :
    {D : Type 0} (written : D → Option (List ℕ)) (failures : D → ℕ) (old new : D) (xs ys : List ℕ) → Cut written failures old new xs
    → Cut written failures old new (xs ++ ys)
cut_longer written failures old new xs ys cut =
    let n = min cut.1.0 (length xs) in
    let below : min cut.1.0 (length xs) ≤ length xs = omega arith in
    (cut.0, (n, subst (Appends (written old) (written new)) (sym (take-append-le n xs ys below ∙ take_min cut.1.0 xs)) cut.1.1))

-- nothing went out to a device that is as it was
pub nothing_sent : {D : Type 0} (written : D → Option (List ℕ)) (failures : D → ℕ) (old new : D) → new ≡ old → Sent written failures old new []
nothing_sent written failures old new same =
    (ap failures same, subst (λ (d : _). Appends (written old) (written d) []) (sym same) (Appends-nil (written old)))

-- A LINE OF JSON

module _ {D : Type 0} (written : D → Option (List ℕ)) (failures : D → ℕ) (old : D) (layout : Layout) (names : Bor NamesGiven) (m : Dynamic) where
  -- there is none
  pub unwritten : (new : D) (e : JsonError) → RefusedAs m e → new ≡ old → WritesLine written failures old new layout names m (Err e)
  unwritten new json_error.Output h same = absurd h
  unwritten new (json_error.Refused x) h same = (h, same)
  unwritten new json_error.Memory h same = same

  module _
      (mid new : D) {a b : Sink} (empty : a ≡ record { held = []; sent = 0; failed = false })
      (put : PutsSome written failures old mid a b (IsJsonLine layout names m)) where
    -- it went out
    pub line_sent : Finishes written failures mid new b (Ok tt) → WritesLine written failures old new layout names m (Ok tt)
    line_sent ends = (put.0, put.1, finished empty put.2 ends)

    -- or did not
    pub line_cut : (e : DeviceFault) → Finishes written failures mid new b (Err e) → WritesLine written failures old new layout names m (Err json_error.Output)
    line_cut e ends = (put.0, put.1, finished empty put.2 ends)

-- WHAT COMES OF IT

module _ {D : Type 0} (written : D → Option (List ℕ)) (failures : D → ℕ) (old new : D) (layout : Layout) (names : Bor NamesGiven) (m : Dynamic) where
  -- the line went out
  pub line_comes :
      WritesLine written failures old new layout names m (Ok tt)
      → Comes (Sent written failures old new) (Cut written failures old new) NoFile (λ path. ⊥) (JsonAnswer layout names m) IsNothing (Ok tt)
  line_comes (line, is, sent) = (done line, has_form {line = line} is refl, refl, refl, sent, refl)

  -- the output failed
  pub cut_comes :
      (path : List ℕ) → path ≡ output_name → WritesLine written failures old new layout names m (Err json_error.Output)
      → FailsAt (Sent written failures old new) (Cut written failures old new) NoFile (λ path. ⊥) (JsonAnswer layout names m) IsNothing path
  cut_comes path named (line, is, cut) = inr (inl (line, named, inl (done line, has_form {line = line} is refl, refl), cut, refl))
