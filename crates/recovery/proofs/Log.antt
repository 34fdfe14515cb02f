-- What stands in the log, and how it goes on: a flush adds to it; a checkpoint leaves it in form one, and empties it in form two.
use mathlib.Core.Path.{◌≡◌, refl, sym, ap, ◌∙◌}
use mathlib.Core.List.{List, [], ◌++◌, append_assoc}
use Prim.Native.Nat.{◌≤◌}
use native.Mathlib.Omega.{arith}
use Rattle.layout.specs.declared.Form.{Form}
use Rattle.layout.specs.declared.Form.TheVariants.{One, Two}
use Rattle.recovery.specs.Group.{Group, groups_size, last_csn}
use Rattle.recovery.specs.Ledger.{Event, Ledger}
use Rattle.recovery.specs.Machine.{Opening, Disk, history_of, standing_if, standing_before, standing_in, number_if, number_before, Live, System, disk_of, opening_disk}
use Rattle.recovery.specs.Machine.{storing, after_checkpoint, Step, stays, begins, writes, sets_savepoint, goes_back, precommits, rolls_back, flushes}
use Rattle.recovery.specs.Machine.{flush_is_cut, settles, checkpoints, checkpoint_is_cut, restarts, restart_is_cut, Run, opened, next}
use Rattle.recovery.proofs.Numbers.{Numbers}

-- ---- in either form

-- what stands in the log ends the history
pub standing_last : (d : Disk) → (gone : List Group) × (history_of d ≡ gone ++ standing_in d)
unfolding standing_before
standing_last d = go d.form
  where
    go : (form : Form) → (gone : List Group) × (history_of d ≡ gone ++ (standing_if form d.before ++ d.after))
    go One = ([], refl)
    go Two = (d.before, refl)

-- what stands before the image ends with the image's number
pub standing_number : (o : Opening) (d : Disk) → Numbers o d → last_csn (number_before o d) (standing_before d) ≡ d.image.csn
unfolding standing_before number_before
standing_number o d n = go d.form
  where
    go : (form : Form) → last_csn (number_if form o.csn d.image.csn) (standing_if form d.before) ≡ d.image.csn
    go One = sym n.image
    go Two = refl

pub opening_stands : (o : Opening) → standing_before (opening_disk o) ≡ []
unfolding standing_before
opening_stands o = go o.form
  where
    go : (form : Form) → standing_if form [] ≡ []
    go One = refl
    go Two = refl

pub opening_number : (o : Opening) → number_before o (opening_disk o) ≡ o.csn
unfolding number_before
opening_number o = go o.form
  where
    go : (form : Form) → number_if form o.csn o.csn ≡ o.csn
    go One = refl
    go Two = refl

-- ---- form one

-- The whole history stands in the log. What rests on the two meanings being equal cites this law, or `checkpoint_stands`, which it gives.
pub form_one : (d : Disk) → d.form ≡ One → standing_before d ≡ d.before
unfolding standing_before
form_one d e = ap (λ (form : Form). standing_if form d.before) e

-- it goes on from the opening's number
pub number_one : (o : Opening) (d : Disk) → d.form ≡ One → number_before o d ≡ o.csn
unfolding number_before
number_one o d e = ap (λ (form : Form). number_if form o.csn d.image.csn) e

-- ---- a flush

pub stored_before : (gs : List Group) (d : Disk) → standing_before (storing gs d) ≡ standing_before d
unfolding standing_before
stored_before gs d = refl

pub stored_stands : (gs : List Group) (d : Disk) → standing_in (storing gs d) ≡ standing_in d ++ gs
stored_stands gs d =
    ap (λ (hs : List Group). hs ++ (d.after ++ gs)) (stored_before gs d) ∙ sym (append_assoc (standing_before d) d.after gs)

pub stored_number : (o : Opening) (gs : List Group) (d : Disk) → number_before o (storing gs d) ≡ number_before o d
unfolding number_before
stored_number o gs d = refl

-- ---- a checkpoint

-- form one: all that stood in the log stands before the new image, and goes on from the same number
pub checkpoint_stands : (d : Disk) (l : Live) → d.form ≡ One → standing_before (after_checkpoint d l) ≡ standing_in d
checkpoint_stands d l e = form_one (after_checkpoint d l) e ∙ ap (λ (hs : List Group). hs ++ d.after) (sym (form_one d e))

pub checkpoint_number : (o : Opening) (d : Disk) (l : Live) → d.form ≡ One → number_before o (after_checkpoint d l) ≡ number_before o d
checkpoint_number o d l e = number_one o (after_checkpoint d l) e ∙ sym (number_one o d e)

-- either form: it takes no more room than before
pub checkpoint_room : (d : Disk) (l : Live) → groups_size (standing_before (after_checkpoint d l)) ≤ groups_size (standing_in d)
unfolding standing_before
checkpoint_room d l = go d.form
  where
    go : (form : Form) → groups_size (standing_if form (history_of d)) ≤ groups_size (standing_if form d.before ++ d.after)
    go One = omega arith
    go Two = omega arith

-- ---- no call changes the form

module _ (o : Opening) where
  step_form : {s t : System} {e : Event} → Step o s e t → (disk_of t).form ≡ (disk_of s).form
  step_form (stays s) = refl
  step_form (begins d l room) = refl
  step_form (writes d l r w listed run within free room) = refl
  step_form (sets_savepoint d l r name listed run) = refl
  step_form (goes_back d l r name n listed run set room) = refl
  step_form (precommits d l r listed run) = refl
  step_form (rolls_back d l r listed run) = refl
  step_form (flushes d l k allowed enough) = refl
  step_form (flush_is_cut d l k allowed few) = refl
  step_form (settles d l r listed committing on_disk_lem) = refl
  step_form (checkpoints d l) = refl
  step_form (checkpoint_is_cut d l) = refl
  step_form (restarts s last_id image_last image-ids group-ids) = refl
  step_form (restart_is_cut s) = refl

  pub form_stays : {s : System} {k : Ledger} → Run o s k → (disk_of s).form ≡ o.form
  form_stays opened = refl
  form_stays (next r p) = step_form p ∙ form_stays r
