use Rattle.desk_script.proofs.Numbers.{IsReadTo}
use Rattle.desk_script.proofs.line.number_of.Given as goal

abbrev pub invariant-digits : goal.invariant-digits
invariant-digits l = IsReadTo l.text l.byte-index l.value
