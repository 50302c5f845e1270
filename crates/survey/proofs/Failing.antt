-- What an error of a call leaves of a promise about an `Ok`.
use Rattle.std.proofs.lemmas.Result.{IfOk-from_err}

pub ruleset failing = (IfOk-from_err)
