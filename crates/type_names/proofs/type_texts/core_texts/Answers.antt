use Rattle.std.proofs.Common.{[], ◌∷◌}
use Rattle.type_names.specs.TypeTexts.{core_assembly, in_order}
use Rattle.type_names.specs.Resolution.{core_namespace, core_type_name}
use Rattle.type_names.proofs.TextNumbers.{extends_by, extends_on, numbers_on, empty_numbered}
use Rattle.type_names.proofs.type_texts.core_texts.Goals as goal

pub returns-clause-texts : goal.returns-clause-texts
returns-clause-texts c =
    let last = extends_by c.core_assemblies.new.names c.number.new.self ([] ∷ []) c.in_ok-empty.ensures.kept in
    let both = extends_on c.core_names.new.names c.core_assemblies.new.names c.number.new.self c.in_ok-assemblies.ensures.extends last in
    let all = extends_on c.core_namespaces.new.names c.core_names.new.names c.number.new.self c.in_ok-own_names.ensures.extends both in
    record {
      types = record {
        namespaces = numbers_on c.core_namespaces.new.names c.number.new.self (in_order core_namespace 36) _ all c.in_ok-namespaces.ensures.numbers;
        names = numbers_on c.core_names.new.names c.number.new.self (in_order core_type_name 36) _ both c.in_ok-own_names.ensures.numbers;
      };
      assemblies = numbers_on c.core_assemblies.new.names c.number.new.self (in_order core_assembly 5) _ last c.in_ok-assemblies.ensures.numbers;
      empty = empty_numbered c.core_assemblies.new.names c.number.new.self _ c.in_ok-empty.ensures.kept c.in_ok-empty.ensures.number;
    }
