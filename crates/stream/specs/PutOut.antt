-- What an output has been given: what its sink holds, and behind it what is still to be written.
-- Relies on the library's account of what a sink holds. Cited by the contracts of an output.
use Rattle.std.specs.Prelude.{ℕ, List, Option, ◌++◌, take}
use Rattle.std.specs.Io.KnownBytes.{Appends, append_known}
use Rattle.stream.specs.declared.output.Output.{Output}

-- the sink's bytes, where they are known, and then the first `used` bytes of the buffer
abbrev pub put_out : Option (List ℕ) → List ℕ → ℕ → Option (List ℕ)
put_out contents buffer used = append_known contents (take used buffer)

-- an output was given some more bytes
abbrev pub Given : {W : Type 0} → (W → Option (List ℕ)) → Output W → Output W → List ℕ → Type 0
Given contents old new bytes = Appends (put_out (contents old.sink) old.buffer old.used) (put_out (contents new.sink) new.buffer new.used) bytes

-- all that was to be written went out, and then some more bytes
abbrev pub WrittenOut : {W : Type 0} → (W → Option (List ℕ)) → Output W → Output W → List ℕ → Type 0
WrittenOut contents old new bytes = Appends (contents old.sink) (contents new.sink) (take old.used old.buffer ++ bytes)
