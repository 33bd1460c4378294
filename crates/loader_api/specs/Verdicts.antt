-- What a judge says of the keys of a world (ECMA-335 II.9, II.10).
use Rattle.std.specs.Prelude.{List}
use Rattle.type_tree.specs.declared.tree.Key.{Key}
use Rattle.type_tree.specs.World.{Facts}
use Rattle.load_events.specs.declared.load_fault.LoadFault.{LoadFault}
use Rattle.key_verdicts.specs.declared.verdict.Verdict.TheVariants as verdict
use Rattle.type_judge.specs.Judging.{IsJudged}

-- the key is good, and these are the members of its closure
abbrev pub IsGood : Facts → Key → List Key → Type 0
IsGood w k members = IsJudged w k (verdict.Good members)

-- the key is refused, for this fault of a member of its closure
abbrev pub IsRefused : Facts → Key → LoadFault → Type 0
IsRefused w k fault = (member : Key) × IsJudged w k (verdict.Refused member fault)
