-- What an output has been given stays where room is made, and grows where something is put.
use Rattle.std.proofs.Common.{◌≡◌, ℕ, zero, suc, ◌+◌, ◌-◌, ◌<◌, ◌≤◌, min, List, [], ◌∷◌, ◌++◌, length, take, drop, arith, Some, None, append_assoc, ap, ◌∙◌, length-drop, subst}
use Rattle.std.specs.declared.option.Option.{Option}
use Rattle.std.specs.Io.KnownBytes.{Appends}
use Rattle.std.proofs.lemmas.Grind.{common_steps}
use Rattle.std.proofs.lemmas.List.{append-nil, length-take-le, take-append-le, take_all, take_min}
use Rattle.std.proofs.Math.Seq.{take-append-add}
use borrow.Rule.Slice.PartMut.{put_mid}
use Rattle.lines.specs.Text.{line_text}
use Rattle.lines.specs.TextLaws.{line_within}
use Rattle.calls.specs.Call.{bad_line}
use Rattle.stream.specs.PutOut.{put_out}
use Rattle.stream.specs.StopLine.{line_put, stop_line}
use Rattle.stream.specs.StopLineLaws.{line_put_whole}

pub stays : (old new : Option (List ℕ)) (buffer : List ℕ) (used left : ℕ) → (0 < left → left ≡ used) → Appends old new (take (used - left) buffer) → Appends (put_out old buffer used) (put_out new buffer left) []
stays None new buffer used left whole e = tt
stays (Some xs) None buffer used left whole e = absurd e
stays (Some xs) (Some ys) buffer used zero whole e = grind (arith, common_steps, append-nil {A = ℕ})
stays (Some xs) (Some ys) buffer used (suc m) whole e = grind (arith, common_steps, append-nil {A = ℕ})

-- the front of a buffer whose rest was written on
front : (buffer room rest : List ℕ) (used m : ℕ) → used ≤ length buffer → m ≤ length room
    → take (used + m) (take used buffer ++ (room ++ rest)) ≡ take used buffer ++ take m room
front buffer room rest used m within short =
    let behind : take (length (take used buffer) + m) (take used buffer ++ (room ++ rest)) ≡ take used buffer ++ take m (room ++ rest) =
    take-append-add (take used buffer) (room ++ rest) m in
    let long : length (take used buffer) ≡ used = length-take-le used buffer within in
    let start : take m (room ++ rest) ≡ take m room = take-append-le m room rest short in
    rw long at behind ∙ ap (λ ys. take used buffer ++ ys) start

taken : (buffer room : List ℕ) (used n : ℕ) → used ≤ length buffer → length room ≡ length buffer - used
    → take (used + min n (length buffer - used)) (put_mid used (length buffer - used) buffer room) ≡ take used buffer ++ take n room
taken buffer room used n within long =
    rw (← long) (front buffer room _ used (min n (length room)) within (omega arith) ∙ ap (λ ys. take used buffer ++ ys) (take_min n room))

pub grows : (old new : Option (List ℕ)) (buffer room : List ℕ) (used n : ℕ) → used ≤ length buffer → length room ≡ length buffer - used
    → Appends (put_out old (put_mid used (length buffer - used) buffer room) (used + min n (length buffer - used))) new []
    → Appends (put_out old buffer used) new (take n room)
grows None new buffer room used n within long e = tt
grows (Some xs) None buffer room used n within long e = absurd e
grows (Some xs) (Some ys) buffer room used n within long e = grind (arith, common_steps, append-nil {A = ℕ}, append_assoc {A = ℕ}, taken buffer room used n within long)

-- the rest of a buffer, as the code lends it
pub rest : (buffer : List ℕ) (used : ℕ) → take (length buffer - used) (drop used buffer) ≡ drop used buffer
rest buffer used = take_all (length buffer - used) (drop used buffer) (omega (arith, length-drop used buffer))

-- what a line of numbers appends, where there is room for it
pub put_whole : (old new : Option (List ℕ)) (ns buffer : List ℕ) (used : ℕ) → Appends old new (line_put ns (drop used buffer)) → used + length (line_text ns) ≤ length buffer
    → Appends old new (line_text ns)
put_whole old new ns buffer used appends fits =
    subst (λ bs. Appends old new bs) (line_put_whole ns (drop used buffer) (omega (arith, length-drop used buffer))) appends

pub stop_line_whole : (number : ℕ) (out : List ℕ) → 42 ≤ length out → stop_line number out ≡ line_text (bad_line ∷ number ∷ [])
stop_line_whole number out room = line_put_whole (bad_line ∷ number ∷ []) out (omega (arith, line_within (bad_line ∷ number ∷ [])))
