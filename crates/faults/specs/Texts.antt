-- How faults are printed.
use Rattle.std.specs.Prelude.{ℕ, ◌++◌, List, codes, unwrap_or}
use Rattle.std.specs.Fmt.{decimal}
use Rattle.faults.specs.declared.segment.Cause.{Cause}
use Rattle.faults.specs.declared.segment.Cause.TheVariants.{Short, Value}
use Rattle.faults.specs.declared.decode.DecodeError.{DecodeError}
use Rattle.faults.specs.Numbers.{number_of, place_of}

-- why a field was not taken, and the place
abbrev pub cause_text : Cause → List ℕ
cause_text (Short e) = codes "short at " ++ decimal e.place
cause_text (Value p) = codes "refused at " ++ decimal p

-- the number and the place; 0 where there is none
abbrev pub fault_text : DecodeError → List ℕ
fault_text e = decimal (number_of e) ++ codes "," ++ decimal (unwrap_or (place_of e) 0)
