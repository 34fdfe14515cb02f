-- Checkpoint.
use Rattle.std.specs.Prelude.{ℕ, Bool, cond, ◌||◌, List, [], ◌∷◌, ◌++◌, eqb}
use Rattle.layout.specs.{names_a, names_b}
use Rattle.layout.specs.Parts.{pointer_of, image_at}
use Rattle.redolog.specs.Stores.{Store, store, copies}
use Rattle.image.specs.Format.{encode_image}
use Rattle.store.specs.declared.State.{State}
use Rattle.store.specs.State.{image_of}
use Rattle.store.specs.Stored.{DiskOutcome, Plan, stored_by}

-- an image's bytes "in order; then the pointer byte"
abbrev pub stores_at : ℕ → ℕ → List ℕ → List Store
stores_at at name bytes = copies at bytes ++ (store 0 name ∷ [])

-- "into A if the pointer byte is 0 or 2, else into B"
abbrev pub into_a : ℕ → Bool
into_a pointer = eqb pointer 0 || eqb pointer names_b

abbrev pub target_name : ℕ → ℕ
target_name pointer = cond (into_a pointer) names_a names_b

abbrev pub target_at : ℕ → ℕ
target_at pointer = image_at (target_name pointer)

abbrev pub image_stores : ℕ → List ℕ → List Store
image_stores pointer bytes = stores_at (target_at pointer) (target_name pointer) bytes

-- "only its used bytes": those of the encoding
abbrev pub checkpoint_stores : State → List ℕ → List ℕ → List Store
checkpoint_stores s d m = image_stores (pointer_of d) (encode_image (image_of s) m)

abbrev pub checkpoint_plan : State → List ℕ → List ℕ → List ℕ → Plan
checkpoint_plan s d m t = record { stores = checkpoint_stores s d m; value = 0; state = s; memory = m; tail = t }

unfoldable pub checkpoint_of : State → List ℕ → List ℕ → List ℕ → ℕ → DiskOutcome
checkpoint_of s d m t allowed = stored_by s d m t (checkpoint_plan s d m t) allowed
