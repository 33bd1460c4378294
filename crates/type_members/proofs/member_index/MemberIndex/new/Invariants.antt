use Rattle.std.proofs.Common.{take}
use Rattle.type_members.specs.MemberIndexes.{AreGroupsOf, method_names, field_names}
use Rattle.type_members.proofs.member_index.MemberIndex.new.Given as goal

abbrev pub invariant-loop-r : goal.invariant-loop-r
invariant-loop-r l = record {
  methods : AreGroupsOf (λ r. r.first_method) (λ r. r.methods) (method_names l.members) (take l.r-index l.members.runs) l.methods;
  fields : AreGroupsOf (λ r. r.first_field) (λ r. r.fields) (field_names l.members) (take l.r-index l.members.runs) l.fields;
}
