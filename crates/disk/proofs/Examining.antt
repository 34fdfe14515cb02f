-- What a disk means, by cases.
use Prim.Native.Nat.{ℕ, ◌+◌, ◌*◌, ◌≤◌, ◌<◌}
use native.Mathlib.Omega.{arith}
use mathlib.Core.Bool.{Bool, true, false, cond}
use mathlib.Core.List.{List, map}
use mathlib.Core.Path.{◌≡◌, refl, sym, ap, ◌∙◌, subst}
use lib.ListN.{length, take, replicate}
use lib.Seq.{sets, take_all}
use lib.Dec.{eqb, ltb}
use borrow.Author.Tests.{eq-eqb, ne_eqb, eqb-true, eqb-false, lt-ltb, le-ltb, ltb-false}
use Rattle.std.specs.Prelude.{Result, Ok, Err, is_err}
use Rattle.layout.specs.declared.refusal.Refusal.{Refusal}
use Rattle.layout.specs.Refusal.{number_of}
use Rattle.redolog.proofs.Basics.{clash}
use Rattle.redolog.proofs.LogLaws.{log_within}
use Rattle.image.proofs.Rules.{image_logend, image_count}
use Rattle.redolog.specs.declared.TxId.{TxId}
use Rattle.redolog.specs.Log.{encode_log}
use Rattle.restart.specs.Turns.{abort_of, aborts_laid}
use Rattle.restart.specs.declared.Replayed.{Replayed}
use Rattle.restart.specs.Restart.{AfterSteps}
use Rattle.store.proofs.Checks.{refused_some}
use Rattle.restart.proofs.Recovery.{end_is, count_is, undone_few}
use Rattle.disk.specs.Open.{OpenedDisk, open_of}
use Rattle.disk.specs.Examine.{Examined, Meaning, refused_by, steps_of, meant, if_fits, examine_of}
use Rattle.disk.specs.Heads.{opened_of, handed_on, JudgedAs}
use Rattle.disk.proofs.Opened.{opened_rules, opened_log, log_short, shut_memory, handed_not}

pub means_shut : (disk : List ℕ) → ((open_of disk).number ≡ 0 → ⊥) → examine_of disk ≡ refused_by (open_of disk).number
unfolding examine_of
means_shut disk n = rw (ne_eqb (open_of disk).number 0 n)

pub refused_memory : (n : ℕ) → (refused_by n).memory ≡ replicate 4096 0
unfolding refused_by
refused_memory n = refl

-- a disk that is not opened, as the code answers of it
pub judged_by : (r : Refusal) → JudgedAs (Err r) (refused_by (number_of r))
unfolding refused_by
judged_by r = record { found = refl; tail = refl }

module _ (disk : List ℕ) (r : Refusal) (e : handed_on (Err r) ≡ opened_of disk) where
  not_open : (open_of disk).number ≡ 0 → ⊥
  not_open z = eqb-false (number_of r) 0 (refused_some r) (sym (handed_not disk r e) ∙ z)

  pub shut_judged : JudgedAs (Err r) (examine_of disk)
  shut_judged = subst (JudgedAs (Err r)) (sym (means_shut disk not_open ∙ ap refused_by (handed_not disk r e))) (judged_by r)

  pub shut_left : (open_of disk).memory ≡ (examine_of disk).memory
  shut_left = shut_memory disk not_open ∙ sym (refused_memory (open_of disk).number) ∙ sym (ap (λ (m : Meaning). m.memory) (means_shut disk not_open))

module _ (disk : List ℕ) (e : (open_of disk).number ≡ 0) where
  abbrev logend : ℕ
  logend = (open_of disk).image.logend

  abbrev steps : AfterSteps
  steps = steps_of (open_of disk)

  -- the end lies within the log, and few are undone
  pub end_within : logend + steps.answer.end ≤ 16384
  unfolding steps_of
  end_within =
      let o = open_of disk in
      let ok = opened_rules disk e in
      omega (
        arith,
        end_is o.image ok o.log o.memory (replicate 16384 0),
        log_within o.image.ondisk.0 _ o.log refl,
        ap length (opened_log disk e),
        log_short logend disk,
        image_logend o.image ok,
      )

  pub undone_within : steps.answer.undone ≤ 8
  unfolding steps_of
  undone_within =
      let o = open_of disk in
      let ok = opened_rules disk e in
      omega (arith, count_is o.image ok o.log o.memory (replicate 16384 0), undone_few o.image o.log, image_count o.image ok)

  taken : examine_of disk ≡ if_fits logend steps
  unfolding examine_of
  taken = rw (eq-eqb (open_of disk).number 0 e)

  pub means_5 : 16384 < logend + steps.answer.end + 4 * steps.answer.undone → examine_of disk ≡ refused_by 5
  means_5 h = taken ∙ rw (lt-ltb 16384 (logend + steps.answer.end + 4 * steps.answer.undone) h)

  pub means : logend + steps.answer.end + 4 * steps.answer.undone ≤ 16384 → examine_of disk ≡ meant logend steps
  means h = taken ∙ rw (le-ltb 16384 (logend + steps.answer.end + 4 * steps.answer.undone) h)

pick : (P : Meaning → Type 0) (b : Bool) (x y : Meaning) → P x → P y → P (cond b x y)
pick P true x y p q = p
pick P false x y p q = q

-- ---- what it leaves room for

abbrev Roomy : Meaning → Type 0
Roomy m = m.result.end + 4 * m.result.undone ≤ 16384

refused_roomy : (n : ℕ) → Roomy (refused_by n)
unfolding refused_by
refused_roomy n = omega arith

fitting_roomy : (logend : ℕ) (o : AfterSteps) → Roomy (if_fits logend o)
fitting_roomy logend o = go (ltb 16384 (logend + o.answer.end + 4 * o.answer.undone)) refl
  where
    go : (b : Bool) → ltb 16384 (logend + o.answer.end + 4 * o.answer.undone) ≡ b → Roomy (cond b (refused_by 5) (meant logend o))
    go true e = refused_roomy 5
    go false e = ltb-false 16384 (logend + o.answer.end + 4 * o.answer.undone) e

pub roomy : (disk : List ℕ) → (examine_of disk).result.end + 4 * (examine_of disk).result.undone ≤ 16384
unfolding examine_of
roomy disk =
    let o = open_of disk in
    pick Roomy (eqb o.number 0) (if_fits o.image.logend (steps_of o)) (refused_by o.number) (fitting_roomy o.image.logend (steps_of o))
    (refused_roomy o.number)

-- ---- few are undone

abbrev Few : Meaning → Type 0
Few m = m.result.undone ≤ 8

refused_few : (n : ℕ) → Few (refused_by n)
unfolding refused_by
refused_few n = omega arith

pub few_undone : (disk : List ℕ) → (examine_of disk).result.undone ≤ 8
unfolding examine_of
few_undone disk = go (eqb (open_of disk).number 0) refl
  where
    o : OpenedDisk
    o = open_of disk

    go : (b : Bool) → eqb (open_of disk).number 0 ≡ b → Few (cond b (if_fits o.image.logend (steps_of o)) (refused_by o.number))
    go true e =
        pick Few (ltb 16384 (o.image.logend + (steps_of o).answer.end + 4 * (steps_of o).answer.undone)) (refused_by 5) (meant o.image.logend (steps_of o))
        (refused_few 5) (undone_within disk (eqb-true (open_of disk).number 0 e))
    go false e = refused_few o.number

-- ---- refused, it means a memory of zeros

abbrev ZerosIfRefused : Meaning → Type 0
ZerosIfRefused m = (m.result.number ≡ 0 → ⊥) → m.memory ≡ replicate 4096 0

pub refused_zeros : (disk : List ℕ) → ((examine_of disk).result.number ≡ 0 → ⊥) → (examine_of disk).memory ≡ replicate 4096 0
unfolding examine_of
refused_zeros disk =
    let o = open_of disk in
    let s = steps_of o in
    pick ZerosIfRefused (eqb o.number 0) (if_fits o.image.logend s) (refused_by o.number)
    (pick ZerosIfRefused (ltb 16384 (o.image.logend + s.answer.end + 4 * s.answer.undone)) (refused_by 5) (meant o.image.logend s)
    (λ z. refused_memory 5) (λ z. absurd (z refl)))
    (λ z. refused_memory o.number)

-- ---- the abort records of those undone, handed on as a slice

pub laid_front : (ids : List TxId) (n : ℕ) (tail : List ℕ) → aborts_laid (take n ids) (length (take n ids)) tail ≡ aborts_laid ids n tail
unfolding aborts_laid
laid_front ids n tail = ap (λ (xs : List TxId). sets tail 0 (encode_log (map abort_of xs))) (take_all (length (take n ids)) (take n ids) (omega arith))

-- ---- refused or not, as the code sees it

pub judged_err : (r : Result Replayed Refusal) (m : Meaning) → JudgedAs r m → is_err r ≡ true → m.result.number ≡ 0 → ⊥
judged_err (Ok x) m j e z = clash (cc)
judged_err (Err x) m j e z = eqb-false (number_of x) 0 (refused_some x) (ap (λ (r : Examined). r.number) j.found ∙ z)

pub judged_ok : (r : Result Replayed Refusal) (m : Meaning) → JudgedAs r m → is_err r ≡ false → m.result.number ≡ 0
judged_ok (Ok x) m j e = sym (ap (λ (r : Examined). r.number) j.found)
judged_ok (Err x) m j e = clash (cc)
