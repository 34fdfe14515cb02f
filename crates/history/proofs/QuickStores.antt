-- Flush and checkpoint, the quick way, are right.
use Prim.Native.Nat.{ℕ, ◌+◌, ◌≤◌, ◌<◌}
use native.Mathlib.Omega.{arith}
use mathlib.Core.List.{List, []}
use mathlib.Core.Path.{◌≡◌, refl, sym, ap, ◌∙◌}
use lib.ListN.{length, take, drop, get_or, set, length-take, length-drop, length-set}
use lib.Seq.{sets, sets-eq, length-sets, length-take-le, take-take, take_all}
use lib.Dec.{leb}
use borrow.Author.Tests.{leb-true}
use Rattle.redolog.specs.Stores.{apply, copies}
use Rattle.redolog.proofs.StoreLaws.{length_copies, copies_cut}
use Rattle.image.specs.Content.{content_of}
use Rattle.image.specs.Format.{content_size}
use Rattle.image.proofs.Sizes.{length_content}
use Rattle.store.specs.declared.State.{State}
use Rattle.store.specs.State.{image_of}
use Rattle.store.specs.Stored.{DiskOutcome, Plan, stored_by}
use Rattle.store.specs.Flush.{first_size, flushed_state, flush_plan, flush_of}
use Rattle.store.specs.Checkpoint.{target_name, checkpoint_plan, checkpoint_of}
use Rattle.store.proofs.Storing.{disk_number, stored_refused, stored_cut, stored_done}
use Rattle.store.proofs.Flushing.{first_length}
use Rattle.store.proofs.Checkpointing.{checkpoint_length, checkpoint_part, checkpoint_whole}
use Rattle.history.specs.Calls.{flush, checkpoint, World, stored, step_of}
use Rattle.history.proofs.Padded.{padded, padded_log, number_of, disk_number_lem, padded_shifted, padded_front}
use Rattle.history.proofs.Quick.{widened, Lengths, laid, telling, cutting, here, flush_quick, image_bytes, slot, checkpoint_quick}
use Rattle.history.proofs.QuickRight.{Right, decide, tested, enough, done_right, cut_right}

module _ (d m bs : List ℕ) (s : State) (l : Lengths d m bs) where
  abbrev w : World
  w = widened (here d m bs s)

  abbrev t : List ℕ
  t = padded bs

  -- number 1 and number 2
  number : disk_number s d m t ≡ number_of s bs []
  number = disk_number_lem s m bs [] l.memory l.tail d l.disk

  laid_is : (at : ℕ) (v : List ℕ) → at + length v ≤ 33691 → sets d at v ≡ laid d at v
  laid_is at v h = sets-eq v d at (omega (arith, l.disk))

  laid_length : (at : ℕ) (v : List ℕ) → at + length v ≤ 33691 → length (laid d at v) ≡ 33691
  laid_length at v h = ap length (sym (laid_is at v h)) ∙ length-sets d at v ∙ l.disk

  -- ---- flush

  module _ (k : ℕ) where
    abbrev firsts : ℕ
    firsts = first_size s bs k

    abbrev log_at : ℕ
    log_at = 17307 + s.logend

    firsts_within : firsts ≤ length bs
    firsts_within = omega (arith, first_length s bs k, length-take firsts bs)

    -- the plan, without the tail's zeros
    abbrev plan : Plan
    plan = record { stores = copies log_at (take firsts bs); value = 0; state = flushed_state s bs k; memory = m; tail = padded (drop firsts bs) }

    plan_is : flush_plan s m t k ≡ plan
    plan_is = rw (padded_log s.ondisk.0 bs, padded_front bs firsts firsts_within, padded_shifted bs firsts l.tail firsts_within)

    needs : length plan.stores ≡ firsts
    needs = length_copies log_at (take firsts bs) ∙ length-take-le firsts bs firsts_within

    module _ (a : ℕ) (z : number_of s bs [] ≡ 0) (f : log_at + firsts ≤ 33691) where
      abbrev flushes : DiskOutcome
      flushes = stored_by s d m t (flush_plan s m t k) a

      planned : flushes ≡ stored_by s d m t plan a
      planned = ap (λ (y : Plan). stored_by s d m t y a) plan_is

      flush_cut : a < firsts → Right (stored flushes) (cutting a (laid d log_at (take a bs)))
      flush_cut h =
          let v : List ℕ = take a bs in
          let r : log_at + length v ≤ 33691 = omega (arith, length-take a bs, h) in
          let i : apply (take a plan.stores) d ≡ laid d log_at v =
          copies_cut a log_at (take firsts bs) d ∙ ap (sets d log_at) (take-take a firsts bs (omega arith)) ∙ laid_is log_at v r in
          cut_right (stored flushes) (ap stored (planned ∙ stored_cut s d m t plan a (number ∙ z) (omega (arith, needs, h)))) (omega (arith, needs, h)) i
          (laid_length log_at v r)

      flush_done : firsts ≤ a → Right (stored flushes) (telling 0 firsts (laid d log_at (take firsts bs)) m (drop firsts bs) (flushed_state s bs k))
      flush_done h =
          let v : List ℕ = take firsts bs in
          let r : log_at + length v ≤ 33691 = omega (arith, length-take firsts bs) in
          let i : apply (take a plan.stores) d ≡ laid d log_at v =
          copies_cut a log_at v d ∙ ap (sets d log_at) (take_all a v (omega (arith, length-take firsts bs, h))) ∙ laid_is log_at v r in
          done_right (stored flushes) (ap stored (planned ∙ stored_done s d m t plan a (number ∙ z) (omega (arith, needs, h)))) (omega (arith, needs, h)) i refl
          (record { disk = laid_length log_at v r; memory = l.memory; tail = omega (arith, l.tail, length-drop firsts bs) })

    pub flush_right : (a : ℕ) → Right (step_of (flush k a) w) (flush_quick d m bs s k a)
    unfolding step_of flush_of
    flush_right a =
        let n = number_of s bs [] in
        let x = stored (stored_by s d m t (flush_plan s m t k) a) in
        decide x n _ _
        (λ z. tested x (leb (log_at + firsts) 33691) _ (λ f.
        let fits = leb-true (log_at + firsts) 33691 f in
        enough x a firsts _ _ (flush_cut a z fits) (flush_done a z fits)))
        (λ h. (ap stored (stored_refused s d m t (flush_plan s m t k) a n number h), l))

  -- ---- checkpoint

  abbrev image : List ℕ
  image = image_bytes d m bs s

  abbrev at : ℕ
  at = slot d m bs s

  abbrev name : ℕ
  name = target_name (get_or d 0 0)

  size : length image ≡ content_size (content_of (image_of s))
  size = length_content (content_of (image_of s)) m l.memory

  module _ (a : ℕ) (z : number_of s bs [] ≡ 0) (f : at + length image ≤ 33691) where
    abbrev checkpoints : DiskOutcome
    checkpoints = stored_by s d m t (checkpoint_plan s d m t) a

    checkpoint_cut : a < length image + 1 → Right (stored checkpoints) (cutting a (laid d at (take a image)))
    checkpoint_cut h =
        let v : List ℕ = take a image in
        let need = checkpoint_length s d m l.memory in
        let r : at + length v ≤ 33691 = omega (arith, length-take a image) in
        let e = ap stored (stored_cut s d m t (checkpoint_plan s d m t) a (number ∙ z) (omega (arith, need, size, h))) in
        cut_right (stored checkpoints) e (omega (arith, need, size, h)) (checkpoint_part s d m a l.memory (omega (arith, size, h)) ∙ laid_is at v r)
        (laid_length at v r)

    checkpoint_done : length image + 1 ≤ a → Right (stored checkpoints) (telling 0 (length image + 1) (set (laid d at image) 0 name) m bs s)
    checkpoint_done h =
        let need = checkpoint_length s d m l.memory in
        let e = ap stored (stored_done s d m t (checkpoint_plan s d m t) a (number ∙ z) (omega (arith, need, size, h))) in
        let i = checkpoint_whole s d m a l.memory (omega (arith, size, h)) ∙ ap (λ (y : List ℕ). set y 0 name) (laid_is at image f) in
        done_right (stored checkpoints) e (omega (arith, need, size, h)) i refl
        (record { disk = length-set (laid d at image) 0 name ∙ laid_length at image f; memory = l.memory; tail = l.tail })

  pub checkpoint_right : (a : ℕ) → Right (step_of (checkpoint a) w) (checkpoint_quick d m bs s a)
  unfolding step_of checkpoint_of
  checkpoint_right a =
      let n = number_of s bs [] in
      let x = stored (stored_by s d m t (checkpoint_plan s d m t) a) in
      decide x n _ _
      (λ z. tested x (leb (at + length image) 33691) _ (λ f.
      let fits = leb-true (at + length image) 33691 f in
      enough x a (length image + 1) _ _ (checkpoint_cut a z fits) (checkpoint_done a z fits)))
      (λ h. (ap stored (stored_refused s d m t (checkpoint_plan s d m t) a n number h), l))
