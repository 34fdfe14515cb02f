-- How a restart with 16,384 stores allowed ends, refused or done, and what text that gives.
use Prim.Native.Nat.{ℕ, ◌<◌, ◌≤◌}
use native.Mathlib.Omega.{arith}
use mathlib.Core.Bool.{Bool, true, false}
use mathlib.Core.List.{List, ◌++◌}
use mathlib.Core.Path.{◌≡◌, refl, sym, ap, ◌∙◌, subst}
use lib.ListN.{length, take, replicate, length-replicate, length-take}
use lib.Seq.{take_all}
use lib.Dec.{eqb, ltb}
use borrow.Author.Tests.{eqb-true, eqb-false, ne_eqb, ltb-true, ltb-false}
use Rattle.layout.specs.Parts.{pointer_of}
use Rattle.redolog.proofs.Basics.{clash}
use Rattle.std.specs.Prelude.{Result, Ok, Err}
use Rattle.layout.specs.declared.refusal.Refusal.{Refusal}
use Rattle.layout.specs.Refusal.{number_of}
use Rattle.store.specs.declared.Failure.{Failure}
use Rattle.store.specs.declared.Failure.TheVariants.{Cut, Refused}
use Rattle.store.specs.Answer.{cut, says_stored, Told}
use Rattle.store.specs.Stored.{DiskOutcome}
use Rattle.disk.specs.declared.call.Recovery.{Recovery}
use Rattle.disk.specs.declared.call.Restarted.{Restarted}
use Rattle.disk.specs.Examine.{examine_of}
use Rattle.disk.specs.Restart.{of_restarted, refused_restart, restart_of, stop_told}
use Rattle.disk.proofs.Examining.{roomy}
use Rattle.disk.proofs.Restarting.{done_from, restart_1, restart_refused, restart_done}
use Rattle.listing.specs.Lines.{found_text, stop_text, stop_line, refused_text}
use Rattle.listing.specs.Listing.{restart_whole, stopped_whole, listing_of, Printed}

pub data Ending (disk : List ℕ) : Type 0 where
  refused : (n : ℕ) → (restart_whole disk).result ≡ refused_restart n → Ending disk
  done : restart_whole disk ≡ done_from (examine_of disk) disk 16384 → Ending disk

abbrev memory : List ℕ
memory = replicate 4096 0

abbrev tail : List ℕ
tail = replicate 16384 0

result : {x y : DiskOutcome} → x ≡ y → x.result ≡ y.result
result e = ap (λ (o : DiskOutcome). o.result) e

pub ending : (disk : List ℕ) → Ending disk
ending disk = go (eqb (length disk) 33691) (eqb (examine_of disk).result.number 0) refl refl
  where
    m : length memory ≡ 4096
    m = length-replicate {A = ℕ} 4096 0

    t : length tail ≡ 16384
    t = length-replicate {A = ℕ} 16384 0

    go : (a b : Bool) → eqb (length disk) 33691 ≡ a → eqb (examine_of disk).result.number 0 ≡ b → Ending disk
    go false b p q = refused 1 (result (restart_1 disk memory tail 16384 (rw p)))
    go true false p q =
        refused _ (result (restart_refused disk memory tail 16384 (eqb-true (length disk) 33691 p) m t (eqb-false (examine_of disk).result.number 0 q)))
    go true true p q =
        done (restart_done disk memory tail 16384 (eqb-true (length disk) 33691 p) m t (eqb-true (examine_of disk).result.number 0 q) (omega arith))

-- 16,384 stores are enough for any disk
pub uncut : (disk : List ℕ) → (restart_whole disk).result.says ≡ cut → ⊥
uncut disk c = go (ending disk)
  where
    go : Ending disk → ⊥
    go (refused n e) = clash (cc (ap (λ (r : Told). r.says) e))
    go (done e) = clash (cc (ap (λ (o : DiskOutcome). o.result.says) e))

-- by log room, since each takes 4 bytes
pub few_undone : (disk : List ℕ) → (restart_whole disk).result.value ≤ 4096
few_undone disk = go (ending disk)
  where
    go : Ending disk → (restart_whole disk).result.value ≤ 4096
    go (refused n e) = omega (arith, ap (λ (r : Told). r.value) e)
    go (done e) = omega (arith, ap (λ (o : DiskOutcome). o.result.value) e, roomy disk)

-- ---- the text by cases

module _ (disk : List ℕ) (r : Restarted) (e : of_restarted r ≡ (restart_whole disk).result) (s : stop_told r.result ≡ stopped_whole disk) where
  pub listing_refused : (n : Refusal) → r.result ≡ Err (Refused n) → listing_of disk ≡ refused_text (number_of n)
  unfolding listing_of
  listing_refused n a = rw (← e, a)

  pub listing_done : (pointer : ℕ) → pointer ≡ pointer_of disk → (x : Recovery) → r.result ≡ Ok x
      → listing_of disk ≡ found_text pointer r.state.logend r.state.ondisk.0 r.state.lastid.0 x.undone ++ stop_text x.stop
  unfolding listing_of stop_line
  listing_done pointer p x a = rw (← e, ← s, a, p)

  pub never_cut : r.result ≡ Err Cut → ⊥
  never_cut a = uncut disk (sym (ap (λ (t : Told). t.says) e) ∙ ap (λ (x : Result Recovery Failure). says_stored x) a)

  -- an answer that is no refusal tells what was found
  pub listing_found : (pointer : ℕ) → pointer ≡ pointer_of disk → ((n : Refusal) → r.result ≡ Err (Refused n) → ⊥)
      → (x : Recovery) × (r.result ≡ Ok x)
      × (listing_of disk ≡ found_text pointer r.state.logend r.state.ondisk.0 r.state.lastid.0 x.undone ++ stop_text x.stop)
  listing_found pointer p k = go r.result refl
    where
      go : (y : Result Recovery Failure) → r.result ≡ y
          → (x : Recovery) × (r.result ≡ Ok x)
          × (listing_of disk ≡ found_text pointer r.state.logend r.state.ondisk.0 r.state.lastid.0 x.undone ++ stop_text x.stop)
      go (Ok x) a = (x, a, listing_done pointer p x a)
      go (Err Cut) a = absurd (never_cut a)
      go (Err (Refused n)) a = absurd (k n a)

pub printed : {x y out : List ℕ} {r : ℕ} → x ≡ y → Printed x r out → Printed y r out
printed {out = out} {r} e l = subst (λ (text : List ℕ). Printed text r out) e l

-- ---- an input of any length, read into a buffer

-- a wrong length is number 1
listing_1 : (disk : List ℕ) → (length disk ≡ 33691 → ⊥) → listing_of disk ≡ refused_text 1
unfolding listing_of restart_of
listing_1 disk l = rw (ne_eqb (length disk) 33691 l)

-- 33,692 bytes of an input tell as much as all of them
front_tells : (whole : List ℕ) → listing_of (take 33692 whole) ≡ listing_of whole
front_tells whole = go (ltb 33692 (length whole)) refl
  where
    go : (b : Bool) → ltb 33692 (length whole) ≡ b → listing_of (take 33692 whole) ≡ listing_of whole
    go false p = ap listing_of (take_all 33692 whole (ltb-false 33692 (length whole) p))
    go true p =
        let longer : 33692 < length whole = ltb-true 33692 (length whole) p in
        listing_1 (take 33692 whole) (λ e. omega (arith, e, longer, length-take 33692 whole)) ∙ sym (listing_1 whole (λ e. omega (arith, e, longer)))

pub read_tells : (buffer : List ℕ) (count : ℕ) (whole : List ℕ) → length buffer ≡ 33692 → take count buffer ≡ take (length buffer) whole
    → listing_of (take count buffer) ≡ listing_of whole
read_tells buffer count whole l e = ap listing_of (e ∙ ap (λ (n : ℕ). take n whole) l) ∙ front_tells whole
