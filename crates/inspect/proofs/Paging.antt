-- One page of a disk's pattern: by cases, and sixteen of them laid together.
use Prim.Native.Nat.{ℕ, zero, suc, ◌+◌, ◌*◌, ◌-◌, ◌≤◌, ◌<◌}
use native.Mathlib.Omega.{arith}
use mathlib.Core.List.{List, [], ◌++◌}
use mathlib.Core.Path.{◌≡◌, refl, sym, ap, ◌∙◌}
use lib.ListN.{length, take, drop, replicate, replicate-append-replicate}
use lib.Seq.{take-add, take_all}
use lib.Dec.{eqb}
use borrow.Author.Tests.{eq-eqb, ne_eqb, le-leb, lt-leb}
use Rattle.store.specs.Answer.{done, refused}
use Rattle.store.specs.Stored.{DiskOutcome}
use Rattle.store.proofs.Stepping.{same_or_other}
use Rattle.disk.specs.Examine.{examine_of}
use Rattle.disk.specs.Restart.{restart_of}
use Rattle.disk.specs.Enough.{Enough}
use Rattle.disk.proofs.Examining.{refused_zeros}
use Rattle.disk.proofs.Accepted.{accepted_is, memory_length}
use Rattle.disk.proofs.Restarting.{restart_done, restart_refused}
use Rattle.inspect.specs.Page.{PageLeft, page_in, refused_page, page_of, laid_together, LikeRestart, PagesLikeRestart}
use Rattle.inspect.proofs.Applying.{and_no}

-- ---- by cases

module _ (disk buffer : List ℕ) (page : ℕ) where
  pub page_no_disk : (length disk ≡ 33691 → ⊥) → page_of disk buffer page ≡ refused_page 1 buffer
  unfolding page_of
  page_no_disk n = rw (ne_eqb (length disk) 33691 n)

  pub page_no_buffer : (length buffer ≡ 256 → ⊥) → page_of disk buffer page ≡ refused_page 1 buffer
  unfolding page_of
  page_no_buffer n = rw (ne_eqb (length buffer) 256 n, and_no (eqb (length disk) 33691))

  module _ (d : length disk ≡ 33691) (b : length buffer ≡ 256) where
    pub page_above : 16 ≤ page → page_of disk buffer page ≡ refused_page 17 buffer
    unfolding page_of
    page_above h = rw (eq-eqb (length disk) 33691 d, eq-eqb (length buffer) 256 b, le-leb 16 page h)

    module _ (h : page < 16) where
      pub page_refused : ((examine_of disk).result.number ≡ 0 → ⊥)
          → page_of disk buffer page ≡ record { says = refused (examine_of disk).result.number; buffer = replicate 256 0 }
      unfolding page_of
      page_refused n =
          rw (eq-eqb (length disk) 33691 d, eq-eqb (length buffer) 256 b, lt-leb 16 page h, ne_eqb (examine_of disk).result.number 0 n)

      pub page_done : (examine_of disk).result.number ≡ 0 → page_of disk buffer page ≡ record { says = done; buffer = page_in page (examine_of disk).memory }
      unfolding page_of
      page_done e =
          rw (eq-eqb (length disk) 33691 d, eq-eqb (length buffer) 256 b, lt-leb 16 page h, eq-eqb (examine_of disk).result.number 0 e)

-- ---- a page as it is lent

pub page_lent : (page : ℕ) (memory : List ℕ) → take (page * 256 + 256 - page * 256) (drop (page * 256) memory) ≡ page_in page memory
page_lent page memory = let k : page * 256 + 256 - page * 256 ≡ 256 = omega arith in ap (λ (n : ℕ). take n (drop (page * 256) memory)) k

-- ---- sixteen pages

-- laid one after the other they come to what grows by each of them
laid_by : (f front : ℕ → List ℕ) (k : ℕ) → front 0 ≡ [] → ((n : ℕ) → n < k → front n ++ f n ≡ front (suc n)) → laid_together f k ≡ front k
laid_by f front zero z h = sym z
laid_by f front (suc k) z h = ap (λ (xs : List ℕ). xs ++ f k) (laid_by f front k z (λ n l. h n (omega arith))) ∙ h k (omega arith)

page_end : (n : ℕ) → n * 256 + 256 ≡ suc n * 256
page_end n = omega arith

laid_front : (f : ℕ → List ℕ) (m : List ℕ) (k : ℕ) → ((n : ℕ) → n < k → f n ≡ page_in n m) → laid_together f k ≡ take (k * 256) m
laid_front f m k h =
    laid_by f (λ n. take (n * 256) m) k refl
    (λ n l. ap (λ (ys : List ℕ). take (n * 256) m ++ ys) (h n l) ∙ sym (take-add (n * 256) 256 m) ∙ ap (λ (j : ℕ). take j m) (page_end n))

laid_zeros : (f : ℕ → List ℕ) (k : ℕ) → ((n : ℕ) → n < k → f n ≡ replicate 256 0) → laid_together f k ≡ replicate (k * 256) 0
laid_zeros f k h =
    laid_by f (λ n. replicate (n * 256) 0) k refl
    (λ n l. ap (λ (ys : List ℕ). replicate (n * 256) 0 ++ ys) (h n l)
    ∙ replicate-append-replicate (n * 256) 256 0
    ∙ ap (λ (j : ℕ). replicate j 0) (page_end n))

-- of a disk of its length, into whatever buffers of theirs
module _ (disk m t : List ℕ) (lent : ℕ → List ℕ) (allowed : ℕ) (d : length disk ≡ 33691) (u : length m ≡ 4096) (v : length t ≡ 16384)
    (l : (n : ℕ) → length (lent n) ≡ 256) where
  abbrev page_at : ℕ → PageLeft
  page_at n = page_of disk (lent n) n

  like_done : Enough allowed disk → (examine_of disk).result.number ≡ 0 → LikeRestart disk lent (restart_of disk m t allowed)
  like_done enough e =
      let memory = (examine_of disk).memory in
      let r = restart_done disk m t allowed d u v e enough in
      let page : (n : ℕ) → n < 16 → page_at n ≡ record { says = done; buffer = page_in n memory } = λ n h. page_done disk (lent n) n d (l n) h e in
      record {
        says = λ n h. ap (λ (x : PageLeft). x.says) (page n h) ∙ sym (ap (λ (o : DiskOutcome). o.result.says) r);
        memory = laid_front (λ n. (page_at n).buffer) memory 16 (λ n h. ap (λ (x : PageLeft). x.buffer) (page n h))
            ∙ take_all 4096 memory (omega (arith, memory_length disk d (accepted_is disk e)))
            ∙ sym (ap (λ (o : DiskOutcome). o.memory) r);
      }

  like_refused : ((examine_of disk).result.number ≡ 0 → ⊥) → LikeRestart disk lent (restart_of disk m t allowed)
  like_refused z =
      let number = (examine_of disk).result.number in
      let r = restart_refused disk m t allowed d u v z in
      let page : (n : ℕ) → n < 16 → page_at n ≡ record { says = refused number; buffer = replicate 256 0 } = λ n h. page_refused disk (lent n) n d (l n) h z in
      record {
        says = λ n h. ap (λ (x : PageLeft). x.says) (page n h) ∙ sym (ap (λ (o : DiskOutcome). o.result.says) r);
        memory = laid_zeros (λ n. (page_at n).buffer) 16 (λ n h. ap (λ (x : PageLeft). x.buffer) (page n h))
            ∙ sym (refused_zeros disk z)
            ∙ sym (ap (λ (o : DiskOutcome). o.memory) r);
      }

-- document 02, A.6
pub pages_like_restart : PagesLikeRestart
pages_like_restart disk m t lent allowed d u v l enough =
    same_or_other (examine_of disk).result.number 0 (like_done disk m t lent allowed d u v l enough) (like_refused disk m t lent allowed d u v l)
