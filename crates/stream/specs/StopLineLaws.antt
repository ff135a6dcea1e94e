-- A line that there is room for is put whole.
-- Relies on StopLine. For whoever puts lines, and cited by the proofs about an output.
use Rattle.std.specs.Prelude.{ℕ, ◌≤◌, ◌≡◌, List, length, drop}
use Rattle.std.proofs.lemmas.Bool.{le-ltb}
use Rattle.std.proofs.Math.Seq.{take-append_seam}
use Rattle.lines.specs.Text.{line_text}
use Rattle.stream.specs.StopLine.{line_put}

pub line_put_whole : (ns out : List ℕ) → length (line_text ns) ≤ length out → line_put ns out ≡ line_text ns
line_put_whole ns out room =
    rw (le-ltb (length out) (length (line_text ns)) room) (take-append_seam (line_text ns) (drop (length (line_text ns)) out))
