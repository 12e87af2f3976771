-- Parts of a map file's written form, as the code writes them.
use Rattle.std.specs.Prelude.{ℕ, zero, suc, List, Float}
use Rattle.codec.specs.Format.{Bytes, ◌⊗◌}
use Rattle.codec.specs.Items.{list}
use Rattle.map.specs.Record.{RuleBody}
use Rattle.map.specs.MapFile.{fields, of_body, signal, crosswalk, rule}
use Rattle.map.specs.Tables.{signal_in, crosswalk_in, rule_in}
use Rattle.store.specs.Layout.{records_of}

-- a row's kind as a file has it: a kind that is none is another rule's
abbrev pub kind_in : ℕ → ℕ
kind_in zero = 6
kind_in (suc zero) = 1
kind_in (suc (suc zero)) = 2
kind_in (suc (suc (suc zero))) = 3
kind_in (suc (suc (suc (suc zero)))) = 4
kind_in (suc (suc (suc (suc (suc zero))))) = 5
kind_in (suc (suc (suc (suc (suc (suc k)))))) = 6

-- a rule's fields, behind its kind
unfoldable pub fields_form : RuleBody → Bytes
fields_form b = (fields (of_body b).0).write (of_body b).1

-- signals, crosswalks and rules
unfoldable pub marks_form : List ℕ → List Float → Bytes
marks_form ws cs = (list 64 signal ⊗ list 32 crosswalk ⊗ list 128 rule).write (records_of signal_in ws cs 3, (records_of crosswalk_in ws cs 4, records_of rule_in ws cs 5))
