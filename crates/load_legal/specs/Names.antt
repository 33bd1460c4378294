-- Handles, and the keys that they name.
use Rattle.std.specs.Prelude.{◌≡◌, List, Option, Some, None, slice_get}
use Rattle.clr_base.specs.declared.ids.Handle.{Handle}
use Rattle.clr_base.specs.declared.ids.SigId.{SigId}
use Rattle.type_tree.specs.declared.tree.Key.{Key}
use Rattle.type_tree.specs.Context.{key_of}

-- `names h k`: the handle h names the key k
-- a handle names at most one key, and a key has at most one handle
pub record OneToOne (names : Handle → Key → Type 0) : Type 0 where
  pub one_key : (h : Handle) (k l : Key) → names h k → names h l → k ≡ l
  pub one_handle : (h g : Handle) (k : Key) → names h k → names g k → h ≡ g

-- the key that is asked for: the signature, with the arguments of the context's key put in
abbrev pub AsksKey : List Key → (Handle → Key → Type 0) → Option Handle → SigId → Key → Type 0
AsksKey sigs names None sig k = (s : Key) × (slice_get sigs sig.0 ≡ Some s) × (k ≡ key_of None s)
AsksKey sigs names (Some h) sig k = (s : Key) × (c : Key) × (slice_get sigs sig.0 ≡ Some s) × names h c × (k ≡ key_of (Some c) s)
