-- The image's transactions by slot and by id, and lists over its slots.
use Rattle.std.specs.Prelude.{ℕ, zero, suc, Bool, true, false, List, [], ◌∷◌, ◌++◌, eqb, Option, Some, None}
use Rattle.recovery.specs.Transaction.{Tx as Transaction}
use Rattle.transaction.specs.View.{view_of}
use Rattle.image.specs.declared.Image.{Image}
use Rattle.image.specs.Slots.{slot_at}

-- the transaction in slot i, as recovery has it
abbrev pub transaction_at : Image → ℕ → Transaction
transaction_at image i = view_of (slot_at image.txs i)

-- a slot, where there is one
abbrev pub Slot : Type 0
Slot = Option ℕ

-- what was found, else n where the test holds of it
abbrev pub or_at : Slot → Bool → ℕ → Slot
or_at (Some i) b n = Some i
or_at None true n = Some n
or_at None false n = None

-- the first slot below n of which p holds
abbrev pub first_below : (ℕ → Bool) → ℕ → Slot
first_below p zero = None
first_below p (suc n) = or_at (first_below p n) (p n) n

abbrev pub has_id_at : Image → ℕ → ℕ → Bool
has_id_at image id i = eqb (transaction_at image i).id id

-- where an id stands in the image
abbrev pub image_slot : Image → ℕ → Slot
image_slot image id = first_below (has_id_at image id) image.count

-- one element, or none
abbrev pub one_if : {A : Type 0} → Bool → A → List A
one_if true a = a ∷ []
one_if false a = []

-- f of each slot below n of which p holds, in order
abbrev pub filter_below : {A : Type 0} → (ℕ → Bool) → (ℕ → A) → ℕ → List A
filter_below p f zero = []
filter_below p f (suc n) = filter_below p f n ++ one_if (p n) (f n)
