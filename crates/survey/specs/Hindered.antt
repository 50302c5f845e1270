-- The trouble that is made of what hinders a run.
use Rattle.runs.specs.declared.twice.Hindrance.{Hindrance}
use Rattle.runs.specs.declared.twice.Hindrance.TheVariants as why
use Rattle.survey.specs.declared.trouble.Trouble.{Trouble}
use Rattle.survey.specs.declared.trouble.Trouble.TheVariants.{Memory, Refused}

abbrev pub hindered : Hindrance → Trouble
hindered why.Memory = Memory
hindered (why.Refused refusal) = Refused refusal
