-- Restart by cases.
use Prim.Native.Nat.{ℕ, ◌+◌, ◌-◌, ◌≤◌, ◌<◌}
use native.Mathlib.Omega.{arith}
use mathlib.Core.Bool.{Bool, true, false, cond, ◌&&◌}
use mathlib.Core.List.{List, ◌++◌}
use mathlib.Core.Path.{◌≡◌, refl, sym, ap, ◌∙◌}
use lib.ListN.{length, take, drop}
use lib.Dec.{eqb, ltb}
use borrow.Author.Tests.{eq-eqb, ne_eqb, eqb-true, ltb-false}
use Rattle.layout.specs.Parts.{log_part}
use Rattle.std.specs.Prelude.{Option}
use Rattle.redolog.specs.declared.stop.Stop.{Stop}
use Rattle.redolog.specs.Stores.{Store, apply, clears}
use Rattle.redolog.proofs.Basics.{clash}
use Rattle.redolog.proofs.PartLaws.{clears_moved, within_clears, part_lent}
use Rattle.redolog.proofs.StoreLaws.{length_clears}
use Rattle.redolog.specs.Stop.{stop_of}
use Rattle.store.specs.Answer.{done, Told}
use Rattle.store.specs.Stored.{DiskOutcome, cut_short, made_whole, carried_out}
use Rattle.store.proofs.Storing.{carried_cut, carried_done}
use Rattle.disk.specs.Layout.{log_from, lengths_ok}
use Rattle.disk.specs.Examine.{Meaning, examine_of}
use Rattle.disk.specs.Restart.{clearing, restart_plan, refused_restart, refused_with, of_meaning, restart_of, stop_found, told_stop, stopped_of}
use Rattle.disk.proofs.Opened.{log_length}

pub clearing_length : (end : ℕ) → length (clearing end) ≡ 16384 - end
clearing_length end = length_clears (17307 + end) (16384 - end)

-- what clearing the log leaves on the disk that it is lent of, and how many stores that takes
pub log_cleared : (n end : ℕ) (d ys : List ℕ) → length d ≡ 33691 → end ≤ 16384 → ys ≡ apply (take n (clears end (length (log_part d) - end))) (log_part d)
    → take 17307 d ++ (ys ++ drop 16384 (drop 17307 d)) ≡ apply (take n (clearing end)) d
log_cleared n end d ys l h e =
    let k = length (log_part d) - end in
    part_lent 17307 16384 n (clears end k) d ys (within_clears 16384 end k (omega (arith, log_length d l, h))) e
    ∙ ap (λ (ss : List Store). apply (take n ss) d)
    (sym (clears_moved 17307 end k) ∙ ap (λ (j : ℕ). clears (17307 + end) (j - end)) (log_length d l))

pub log_count : (end : ℕ) (d : List ℕ) → length d ≡ 33691 → length (clears end (length (log_part d) - end)) ≡ length (clearing end)
log_count end d l =
    length_clears end (length (log_part d) - end) ∙ ap (λ (k : ℕ). k - end) (log_length d l) ∙ sym (clearing_length end)

-- a disk that is accepted, with n stores allowed: cut or done
abbrev pub cut_from : Meaning → List ℕ → ℕ → DiskOutcome
cut_from m disk n = cut_short (restart_plan m) n disk

abbrev pub done_from : Meaning → List ℕ → ℕ → DiskOutcome
done_from m disk n = made_whole (restart_plan m) n disk

pub restart_1 : (disk memory tail : List ℕ) (allowed : ℕ) → lengths_ok disk memory tail ≡ false
    → restart_of disk memory tail allowed ≡ refused_with 1 disk memory tail
unfolding restart_of
restart_1 disk memory tail allowed e = rw e

-- a buffer without its length
pub not_disk : (disk memory tail : List ℕ) → (length disk ≡ 33691 → ⊥) → lengths_ok disk memory tail ≡ false
not_disk disk memory tail n = rw (ne_eqb (length disk) 33691 n)

pub not_memory : (disk memory tail : List ℕ) → (length memory ≡ 4096 → ⊥) → lengths_ok disk memory tail ≡ false
not_memory disk memory tail n = go (eqb (length disk) 33691)
  where
    go : (b : Bool) → b && eqb (length memory) 4096 && eqb (length tail) 16384 ≡ false
    go true = rw (ne_eqb (length memory) 4096 n)
    go false = refl

pub not_tail : (disk memory tail : List ℕ) → (length tail ≡ 16384 → ⊥) → lengths_ok disk memory tail ≡ false
not_tail disk memory tail n = go (eqb (length disk) 33691) (eqb (length memory) 4096)
  where
    go : (b c : Bool) → b && c && eqb (length tail) 16384 ≡ false
    go true true = rw (ne_eqb (length tail) 16384 n)
    go true false = refl
    go false c = refl

module _ (disk memory tail : List ℕ) (allowed : ℕ) (d : length disk ≡ 33691) (m : length memory ≡ 4096) (t : length tail ≡ 16384) where
  pub restart_meant : restart_of disk memory tail allowed ≡ of_meaning (examine_of disk) disk allowed
  unfolding restart_of
  restart_meant = rw (eq-eqb (length disk) 33691 d, eq-eqb (length memory) 4096 m, eq-eqb (length tail) 16384 t)

  pub restart_refused : ((examine_of disk).result.number ≡ 0 → ⊥)
      → restart_of disk memory tail allowed ≡ refused_with (examine_of disk).result.number disk (examine_of disk).memory (examine_of disk).tail
  restart_refused n = restart_meant ∙ rw (ne_eqb (examine_of disk).result.number 0 n)

  module _ (e : (examine_of disk).result.number ≡ 0) where
    taken : restart_of disk memory tail allowed ≡ carried_out (restart_plan (examine_of disk)) allowed disk
    taken = restart_meant ∙ rw (eq-eqb (examine_of disk).result.number 0 e)

    pub restart_cut : allowed < 16384 - (examine_of disk).result.end → restart_of disk memory tail allowed ≡ cut_from (examine_of disk) disk allowed
    restart_cut h = taken ∙ carried_cut (restart_plan (examine_of disk)) allowed disk (omega (arith, clearing_length (examine_of disk).result.end))

    pub restart_done : 16384 - (examine_of disk).result.end ≤ allowed → restart_of disk memory tail allowed ≡ done_from (examine_of disk) disk allowed
    restart_done h = taken ∙ carried_done (restart_plan (examine_of disk)) allowed disk (omega (arith, clearing_length (examine_of disk).result.end))

-- ---- the stop told

pub stop_found_lem : (disk : List ℕ) (end : ℕ) → end ≡ (examine_of disk).result.end → stop_of (log_from end disk) ≡ stop_found disk
unfolding stop_found
stop_found_lem disk end e = ap (λ (n : ℕ). stop_of (log_from n disk)) e

pub stopped_by_lem : (disk memory tail : List ℕ) (allowed : ℕ) {o : DiskOutcome} → restart_of disk memory tail allowed ≡ o
    → stopped_of disk memory tail allowed ≡ told_stop o.result.says (stop_found disk)
unfolding stopped_of
stopped_by_lem disk memory tail allowed e = ap (λ (o : DiskOutcome). told_stop o.result.says (stop_found disk)) e

-- the parts of an outcome x and the stop that it tells, as the contract asks for them
pub parts : (disk memory tail : List ℕ) (allowed : ℕ) {x : DiskOutcome} {r : Told} {d m t : List ℕ} {s : Option Stop} → restart_of disk memory tail allowed ≡ x
    → r ≡ x.result → d ≡ x.disk → m ≡ x.memory → t ≡ x.tail → s ≡ told_stop x.result.says (stop_found disk)
    → record {
      result_value : r ≡ (restart_of disk memory tail allowed).result;
      disk_after : d ≡ (restart_of disk memory tail allowed).disk;
      memory_after : m ≡ (restart_of disk memory tail allowed).memory;
      tail_after : t ≡ (restart_of disk memory tail allowed).tail;
      stop_value : s ≡ stopped_of disk memory tail allowed;
    }
parts disk memory tail allowed e p q u v w = record {
  result_value = p ∙ ap (λ (o : DiskOutcome). o.result) (sym e);
  disk_after = q ∙ ap (λ (o : DiskOutcome). o.disk) (sym e);
  memory_after = u ∙ ap (λ (o : DiskOutcome). o.memory) (sym e);
  tail_after = v ∙ ap (λ (o : DiskOutcome). o.tail) (sym e);
  stop_value = w ∙ sym (stopped_by_lem disk memory tail allowed e);
}

-- ---- the answer "done"

abbrev pub Done? : DiskOutcome → Type 0
Done? o = o.result.says ≡ done

refused_not : (n : ℕ) → (refused_restart n).says ≡ done → ◌≡◌ {A = ℕ} 0 1
refused_not n e = cc

-- the buffers then had their lengths, no number refused, and the stores were enough
pub record DoneWith (disk memory tail : List ℕ) (allowed : ℕ) : Type 0 where
  pub disk_length : length disk ≡ 33691
  pub memory_length : length memory ≡ 4096
  pub tail_length_lem : length tail ≡ 16384
  pub number : (examine_of disk).result.number ≡ 0
  pub enough : 16384 - (examine_of disk).result.end ≤ allowed

module _ (disk memory tail : List ℕ) (allowed : ℕ) where
  abbrev m : Meaning
  m = examine_of disk

  abbrev n : ℕ
  n = length (clearing m.result.end)

  abbrev chosen : Bool → Bool → Bool → Bool → Bool → DiskOutcome
  chosen x y z b w =
      cond (x && y && z) (cond b (cond w (cut_from m disk allowed) (done_from m disk allowed)) (refused_with m.result.number disk m.memory m.tail))
      (refused_with 1 disk memory tail)

  pub done_inv : Done? (restart_of disk memory tail allowed) → DoneWith disk memory tail allowed
  unfolding restart_of carried_out
  done_inv =
      go (eqb (length disk) 33691) (eqb (length memory) 4096) (eqb (length tail) 16384) (eqb m.result.number 0) (ltb allowed n) refl refl refl refl refl
    where
      go : (x y z b w : Bool) → eqb (length disk) 33691 ≡ x → eqb (length memory) 4096 ≡ y → eqb (length tail) 16384 ≡ z → eqb m.result.number 0 ≡ b
          → ltb allowed n ≡ w
          → Done? (chosen x y z b w) → DoneWith disk memory tail allowed
      go true true true true false p q r s t e = record {
        disk_length = eqb-true (length disk) 33691 p;
        memory_length = eqb-true (length memory) 4096 q;
        tail_length_lem = eqb-true (length tail) 16384 r;
        number = eqb-true m.result.number 0 s;
        enough = omega (arith, ltb-false allowed n t, clearing_length m.result.end);
      }
      go true true true true true p q r s t e = clash (cc)
      go true true true false w p q r s t e = clash (refused_not m.result.number e)
      go true true false b w p q r s t e = clash (refused_not 1 e)
      go true false z b w p q r s t e = clash (refused_not 1 e)
      go false y z b w p q r s t e = clash (refused_not 1 e)

  pub done_with : DoneWith disk memory tail allowed → restart_of disk memory tail allowed ≡ done_from (examine_of disk) disk allowed
  done_with d = restart_done disk memory tail allowed d.disk_length d.memory_length d.tail_length_lem d.number d.enough
