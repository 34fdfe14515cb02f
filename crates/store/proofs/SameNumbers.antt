-- States that are alike in what judges a call are refused alike by every call in memory: check by check, then with numbers 1 and 2.
use Prim.Native.Nat.{ℕ, ◌+◌, ◌-◌, ◌/◌, ◌<◌}
use mathlib.Core.Bool.{Bool, true, false, cond, not, ◌||◌}
use mathlib.Core.List.{List, [], ◌∷◌}
use mathlib.Core.Path.{◌≡◌, refl, sym, ap, ap₂, ◌∙◌, subst}
use lib.ListN.{length, drop}
use lib.Dec.{eqb, ltb}
use Rattle.recovery.specs.Lists.{any}
use Rattle.recovery.specs.Savepoint.{Savepoint, count_at}
use Rattle.transaction.specs.View.{Range, written_by, savepoints_of}
use Rattle.transaction.specs.Rules.{reading, writing, held_against, ranges_size, is_set, name_refused, or_zero}
use Rattle.store.specs.declared.State.{State}
use Rattle.store.specs.State.{tx_at, txs_of, has_id, slot_of}
use Rattle.store.specs.Rules.{room_used}
use Rattle.store.specs.Numbers.{Check, first_number, number_by, tx_of, check6, check7, check8, check9, check10, check12, check13, check14, check15, check16, check18, check19, return_check10, return_check13}
use Rattle.store.specs.Numbers.{begin_checks, read_checks, answer_checks, write_checks, savepoint_checks, go_back_checks, precommit_checks, abort_checks, settle_checks}
use Rattle.store.proofs.Slots.{slot_within}
use Rattle.store.proofs.Sameness.{AlikeTx, Alike, room_alike, number_alike, ids, slots, helds}

module _ (s r : State) (h : Alike s r) where
  -- ---- begin

  pub begin_alike : (lent : ℕ) (t : List ℕ)
      → number_by s lent t (begin_checks s.count s.lastid.0 (room_used s t)) ≡ number_by r lent t (begin_checks r.count r.lastid.0 (room_used r t))
  begin_alike lent t =
      number_alike s r h lent t (begin_checks s.count s.lastid.0 (room_used s t)) (begin_checks r.count r.lastid.0 (room_used r t))
      (ap₂ (λ (c l : ℕ). first_number (begin_checks c l (room_used s t))) h.count h.lastid
      ∙ ap (λ (n : ℕ). first_number (begin_checks r.count r.lastid.0 n)) (room_alike s r h t))

  -- ---- a transaction by its id

  named : (id : ℕ) → slot_of s id < s.count → AlikeTx (tx_of s id) (tx_of r id)
  named id l = subst (λ (k : ℕ). AlikeTx (tx_at s (slot_of s id)) (tx_at r k)) (slots s r h id) (h.listed (slot_of s id) l)

  -- number 6 comes first: the slot of an id that isn't listed is not looked at
  listed_alike : (id : ℕ) (cs ds : List Check) → (slot_of s id < s.count → first_number cs ≡ first_number ds)
      → first_number (check6 s id ∷ cs) ≡ first_number (check6 r id ∷ ds)
  listed_alike id cs ds k = go (any (has_id id) (txs_of s)) refl
    where
      go : (b : Bool) → any (has_id id) (txs_of s) ≡ b → first_number (check6 s id ∷ cs) ≡ first_number (check6 r id ∷ ds)
      go false e = let f : any (has_id id) (txs_of r) ≡ false = sym (ids s r h id) ∙ e in rw (e, f)
      go true e = let f : any (has_id id) (txs_of r) ≡ true = sym (ids s r h id) ∙ e in rw (e, f) (k (slot_within s id e))

  -- ---- the checks of the calls about it

  module _ (id : ℕ) where
    pub abort_first : first_number (abort_checks s id) ≡ first_number (abort_checks r id)
    abort_first = listed_alike id (check7 s id ∷ []) (check7 r id ∷ []) (λ e. ap (λ (k : ℕ). cond (eqb k 2) 7 0) (named id e).status)

    pub precommit_first : first_number (precommit_checks s id) ≡ first_number (precommit_checks r id)
    precommit_first =
        listed_alike id (check7 s id ∷ check12 s ∷ []) (check7 r id ∷ check12 r ∷ [])
        (λ e. ap₂ (λ (k n : ℕ). cond (eqb k 2) 7 (cond (eqb n 4294967295) 12 0)) (named id e).status h.assigned)

    pub settle_first : first_number (settle_checks s id) ≡ first_number (settle_checks r id)
    settle_first =
        listed_alike id (check14 s id ∷ []) (check14 r id ∷ [])
        (λ e.
        ap (λ (k : ℕ). cond (eqb k 1 || ltb s.ondisk.0 (tx_of s id).csn.0) 14 0) (named id e).status
        ∙ ap₂ (λ (d c : ℕ). cond (eqb (tx_of r id).status 1 || ltb d c) 14 0) h.ondisk (named id e).csn)

    module _ (name : ℕ) where
      pub savepoint_first : first_number (savepoint_checks s id name) ≡ first_number (savepoint_checks r id name)
      savepoint_first =
          listed_alike id (check7 s id ∷ check19 s id name ∷ []) (check7 r id ∷ check19 r id name ∷ [])
          (λ e. ap₂ (λ (k : ℕ) (ps : List Savepoint). cond (eqb k 2) 7 (cond (name_refused name ps) 19 0)) (named id e).status (named id e).savepoints.savepoints)

      -- what follows number 7: savepoints, count and ranges of the undo records, room
      abbrev returned : List Savepoint → ℕ → List Range → ℕ → ℕ
      returned ps c rs room =
          cond (not (is_set name ps)) 18
          (cond (ltb 16 (c + length (drop (or_zero (count_at name ps)) rs))) 10 (cond (ltb 16384 (room + ranges_size (drop (or_zero (count_at name ps)) rs))) 13 0))

      pub go_back_first : (x y : ℕ) → x ≡ y → first_number (go_back_checks s x id name) ≡ first_number (go_back_checks r y id name)
      go_back_first x y q =
          listed_alike id (check7 s id ∷ check18 s id name ∷ return_check10 s id name ∷ return_check13 s x id name ∷ [])
          (check7 r id ∷ check18 r id name ∷ return_check10 r id name ∷ return_check13 r y id name ∷ [])
          (λ e.
          let t = tx_of s id in
          let u = tx_of r id in
          let h = named id e in
          ap₂ (λ (k : ℕ) (ps : List Savepoint). cond (eqb k 2) 7 (returned ps t.undo.ranges.count (written_by t) x)) h.status h.savepoints.savepoints
          ∙ ap₂ (λ (c : ℕ) (rs : List Range). cond (eqb u.status 2) 7 (returned (savepoints_of u) c rs x)) h.undo.count h.undo.ranges
          ∙ ap (λ (m : ℕ). cond (eqb u.status 2) 7 (returned (savepoints_of u) u.undo.ranges.count (written_by u) m)) q)

    module _ (a n : ℕ) where
      -- what follows numbers 7 and 8, and what follows 9
      abbrev up_to8 : ℕ → ℕ → ℕ
      up_to8 status more = cond (eqb status 2) 7 (cond (eqb n 0 || ltb 32 n || ltb 4096 (a + n)) 8 more)

      abbrev up_to9 : ℕ → Bool → ℕ → ℕ
      up_to9 status held more = up_to8 status (cond held 9 more)

      pub read_first : first_number (read_checks s id a n) ≡ first_number (read_checks r id a n)
      read_first =
          listed_alike id (check7 s id ∷ check8 a n ∷ check9 s reading id a n ∷ []) (check7 r id ∷ check8 a n ∷ check9 r reading id a n ∷ [])
          (λ e. ap₂ (λ (k : ℕ) (b : Bool). up_to9 k b 0) (named id e).status (helds s r h reading id a n))

      pub answer_first : first_number (answer_checks s id a n) ≡ first_number (answer_checks r id a n)
      answer_first =
          listed_alike id (check7 s id ∷ check8 a n ∷ check9 s reading id a n ∷ check15 s id ∷ [])
          (check7 r id ∷ check8 a n ∷ check9 r reading id a n ∷ check15 r id ∷ [])
          (λ e.
          ap₂ (λ (k : ℕ) (b : Bool). up_to9 k b (cond (eqb (tx_of s id).extras.reads.count 16) 15 0)) (named id e).status (helds s r h reading id a n)
          ∙ ap (λ (c : ℕ). up_to9 (tx_of r id).status (any (held_against reading id a n) (txs_of r)) (cond (eqb c 16) 15 0)) (named id e).reads.count)

      -- 16 comes before 9
      abbrev written : ℕ → Bool → ℕ → ℕ → ℕ
      written status held records room =
          up_to8 status (cond (ltb (a / 256) ((a + n - 1) / 256)) 16 (cond held 9 (cond (eqb records 16) 10 (cond (ltb 16384 (room + (7 + n))) 13 0))))

      pub write_first : (x y : ℕ) → x ≡ y → first_number (write_checks s x id a n) ≡ first_number (write_checks r y id a n)
      write_first x y q =
          listed_alike id (check7 s id ∷ check8 a n ∷ check16 a n ∷ check9 s writing id a n ∷ check10 s id ∷ check13 x n ∷ [])
          (check7 r id ∷ check8 a n ∷ check16 a n ∷ check9 r writing id a n ∷ check10 r id ∷ check13 y n ∷ [])
          (λ e.
          ap₂ (λ (k : ℕ) (b : Bool). written k b (tx_of s id).undo.ranges.count x) (named id e).status (helds s r h writing id a n)
          ∙ ap₂ (λ (c m : ℕ). written (tx_of r id).status (any (held_against writing id a n) (txs_of r)) c m) (named id e).undo.count q)

  -- ---- the numbers of these calls

  module _ (lent : ℕ) (t : List ℕ) (id : ℕ) where
    pub abort_alike : number_by s lent t (abort_checks s id) ≡ number_by r lent t (abort_checks r id)
    abort_alike = number_alike s r h lent t (abort_checks s id) (abort_checks r id) (abort_first id)

    pub precommit_alike : number_by s lent t (precommit_checks s id) ≡ number_by r lent t (precommit_checks r id)
    precommit_alike = number_alike s r h lent t (precommit_checks s id) (precommit_checks r id) (precommit_first id)

    pub settle_alike : number_by s lent t (settle_checks s id) ≡ number_by r lent t (settle_checks r id)
    settle_alike = number_alike s r h lent t (settle_checks s id) (settle_checks r id) (settle_first id)

    pub read_alike : (a n : ℕ) → number_by s lent t (read_checks s id a n) ≡ number_by r lent t (read_checks r id a n)
    read_alike a n = number_alike s r h lent t (read_checks s id a n) (read_checks r id a n) (read_first id a n)

    pub answer_alike : (a n : ℕ) → number_by s lent t (answer_checks s id a n) ≡ number_by r lent t (answer_checks r id a n)
    answer_alike a n = number_alike s r h lent t (answer_checks s id a n) (answer_checks r id a n) (answer_first id a n)

    pub write_alike : (a n : ℕ) → number_by s lent t (write_checks s (room_used s t) id a n) ≡ number_by r lent t (write_checks r (room_used r t) id a n)
    write_alike a n =
        number_alike s r h lent t (write_checks s (room_used s t) id a n) (write_checks r (room_used r t) id a n)
        (write_first id a n (room_used s t) (room_used r t) (room_alike s r h t))

    pub savepoint_alike : (name : ℕ) → number_by s lent t (savepoint_checks s id name) ≡ number_by r lent t (savepoint_checks r id name)
    savepoint_alike name = number_alike s r h lent t (savepoint_checks s id name) (savepoint_checks r id name) (savepoint_first id name)

    pub go_back_alike : (name : ℕ) → number_by s lent t (go_back_checks s (room_used s t) id name) ≡ number_by r lent t (go_back_checks r (room_used r t) id name)
    go_back_alike name =
        number_alike s r h lent t (go_back_checks s (room_used s t) id name) (go_back_checks r (room_used r t) id name)
        (go_back_first id name (room_used s t) (room_used r t) (room_alike s r h t))
