-- The mark as the definitions have it, and the mark that a number of the record names. Assumes nothing.
use Rattle.std.specs.Prelude.{ℕ, cond, eqb}
use Rattle.format.specs.Fields.{today, old}
use Rattle.format.specs.Fields.{Form as Mark}
use Rattle.fields.specs.declared.Form.{Form}
use Rattle.fields.specs.declared.Form.TheVariants.{Today, Old}

abbrev pub form_of : Form → Mark
form_of Today = today
form_of Old = old

-- what a writer takes a number for: 0 today's; any other old
abbrev pub form_named : ℕ → Form
form_named n = cond (eqb n 0) Today Old
