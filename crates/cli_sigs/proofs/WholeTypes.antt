-- Types of any depth are read as they are spelled.
use Rattle.std.proofs.Common.{◌≡◌, ℕ, zero, suc, List, [], ◌∷◌, ◌++◌, Option, Some, None, Ok, refl, inl, inr}
use Rattle.cli_sigs.specs.declared.signature.RowCounts.{RowCounts}
use Rattle.cli_sigs.specs.declared.signature.SigTy.{SigTy}
use Rattle.cli_sigs.specs.declared.element.Simple.{Simple}
use Rattle.cli_sigs.specs.declared.element.Constructor.{Constructor}
use Rattle.cli_sigs.specs.Reading.{refused}
use Rattle.cli_sigs.specs.Element.{simple_of, constructor_of}
use Rattle.cli_sigs.specs.Types.{Reader, constructor_at, coded_at, level_at, type_at}
use Rattle.cli_sigs.specs.Grammar.{SpellsSimple, SpellsLevel, SpellsType}
use Rattle.cli_sigs.proofs.ReaderLaws.{Begins, Reads}
use Rattle.cli_sigs.proofs.Marked.{IsGuarded}
use Rattle.cli_sigs.proofs.Simples.{simple_again, simple_found}
use Rattle.cli_sigs.proofs.Constructed.{constructed_again, constructed_found}

module _ (counts : RowCounts) where
  level_guarded : (one : Option (Reader SigTy)) → IsGuarded (level_at counts one)
  unfolding level_at simple_of constructor_of
  level_guarded None = record { required = λ rest. refl; optional = λ rest. refl; pin = λ rest. refl; dots = λ rest. refl }
  level_guarded (Some one) = record { required = λ rest. refl; optional = λ rest. refl; pin = λ rest. refl; dots = λ rest. refl }

  level_no_void : (one : Option (Reader SigTy)) (rest : List ℕ) → level_at counts one (0x01 ∷ rest) ≡ refused (0x01 ∷ rest)
  unfolding level_at simple_of constructor_of
  level_no_void None rest = refl
  level_no_void (Some one) rest = refl

  -- ---- with no level left

  last_coded : (code : ℕ) (more : List ℕ) (o : Option Simple) (t : SigTy) (rest : List ℕ) → simple_of code ≡ o → coded_at counts None o code more ≡ Ok (t, rest) → Begins (SpellsSimple counts) (code ∷ more) t rest
  last_coded code more (Some s) t rest h e = simple_found counts code more s t rest h e
  last_coded code more None t rest h e = absurd cc

  last_found : (bytes : List ℕ) (t : SigTy) (rest : List ℕ) → level_at counts None bytes ≡ Ok (t, rest) → Begins (SpellsSimple counts) bytes t rest
  unfolding level_at
  last_found [] t rest e = absurd cc
  last_found (code ∷ more) t rest e = last_coded code more (simple_of code) t rest refl e

  reads_last : Reads (level_at counts None) (SpellsSimple counts)
  reads_last = record { found = last_found; again = simple_again counts None }

  -- ---- with a level below

  module _ (one : Reader SigTy) (Spells : List ℕ → SigTy → Type 0) (guarded : IsGuarded one) (no_void : (rest : List ℕ) → one (0x01 ∷ rest) ≡ refused (0x01 ∷ rest)) (reads : Reads one Spells) where
    constructor_found : (code : ℕ) (more : List ℕ) (o : Option Constructor) (t : SigTy) (rest : List ℕ) → constructor_of code ≡ o → constructor_at counts (Some one) o code more ≡ Ok (t, rest) → Begins (SpellsLevel counts Spells) (code ∷ more) t rest
    constructor_found code more (Some k) t rest h e =
        let x = constructed_found counts one Spells guarded no_void reads code more k t rest h e in
        record { text = x.text; spelled = inr x.spelled; front = x.front }
    constructor_found code more None t rest h e = absurd cc

    coded_found : (code : ℕ) (more : List ℕ) (o : Option Simple) (t : SigTy) (rest : List ℕ) → simple_of code ≡ o → coded_at counts (Some one) o code more ≡ Ok (t, rest) → Begins (SpellsLevel counts Spells) (code ∷ more) t rest
    coded_found code more (Some s) t rest h e =
        let x = simple_found counts code more s t rest h e in
        record { text = x.text; spelled = inl x.spelled; front = x.front }
    coded_found code more None t rest h e = constructor_found code more (constructor_of code) t rest refl e

    level_found : (bytes : List ℕ) (t : SigTy) (rest : List ℕ) → level_at counts (Some one) bytes ≡ Ok (t, rest) → Begins (SpellsLevel counts Spells) bytes t rest
    unfolding level_at
    level_found [] t rest e = absurd cc
    level_found (code ∷ more) t rest e = coded_found code more (simple_of code) t rest refl e

    level_again : (text : List ℕ) (t : SigTy) (rest : List ℕ) → SpellsLevel counts Spells text t → level_at counts (Some one) (text ++ rest) ≡ Ok (t, rest)
    level_again text t rest (inl s) = simple_again counts (Some one) text t rest s
    level_again text t rest (inr s) = constructed_again counts one Spells guarded no_void reads text t rest s

    reads_level : Reads (level_at counts (Some one)) (SpellsLevel counts Spells)
    reads_level = record { found = level_found; again = level_again }

  -- ---- with any number of levels

  pub guards_type : (levels : ℕ) → IsGuarded (type_at counts levels)
  unfolding type_at
  guards_type zero = level_guarded None
  guards_type (suc levels) = level_guarded (Some (type_at counts levels))

  pub type_no_void : (levels : ℕ) (rest : List ℕ) → type_at counts levels (0x01 ∷ rest) ≡ refused (0x01 ∷ rest)
  unfolding type_at
  type_no_void zero rest = level_no_void None rest
  type_no_void (suc levels) rest = level_no_void (Some (type_at counts levels)) rest

  pub reads_type : (levels : ℕ) → Reads (type_at counts levels) (SpellsType counts levels)
  unfolding type_at SpellsType
  reads_type zero = reads_last
  reads_type (suc levels) = reads_level (type_at counts levels) (SpellsType counts levels) (guards_type levels) (type_no_void levels) (reads_type levels)
