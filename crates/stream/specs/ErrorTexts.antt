-- The text of a fault: that of a failed read or write is not known. Cited by its `Display`.
use Rattle.std.specs.Prelude.{ℕ, List, Option, Some, None, codes}
use Rattle.stream.specs.declared.fault.Fault.{Fault}
use Rattle.stream.specs.declared.fault.Fault.TheVariants.{BadLine, Io}

abbrev pub fault_text : Fault → Option (List ℕ)
fault_text BadLine = Some (codes "bad line")
fault_text (Io e) = None
