-- Restart is recovery: what `recover_of` leaves, in recovery's terms, for the image's transactions and the groups read.
use Prim.Native.Nat.{ℕ, suc, ◌+◌, ◌*◌, ◌-◌, ◌≤◌, ◌<◌, max}
use native.Mathlib.Omega.{arith}
use mathlib.Core.Bool.{Bool, true, false, not, cond, ◌&&◌}
use mathlib.Core.List.{List, [], ◌∷◌, ◌++◌}
use mathlib.Core.Path.{◌≡◌, refl, sym, ap, ap₂, ◌∙◌}
use lib.ListN.{length, get_or, drop, replicate, length-replicate, length-append}
use lib.Dec.{ltb}
use lib.Seq.{sets, sets-eq}
use borrow.Author.Tests.{ne_eqb}
use Rattle.recovery.specs.Group.{groups_size, last_csn}
use Rattle.recovery.specs.Lists.{All, nil, cons, filter, has}
use Rattle.recovery.specs.Transaction.{Tx, running, committing}
use Rattle.recovery.specs.Replay.{undo_each, lay_bytes}
use Rattle.recovery.specs.Restart.{group_id, finished, unfinished, sort_desc, above, undo_order, undone, aborts, recover}
use Rattle.recovery.proofs.Lists.{all_map, all_filter, filter_append, filter_filter}
use Rattle.recovery.proofs.Sorting.{sort_length, filter_sort}
use Rattle.recovery.proofs.AbortLaw.{order_all}
use Rattle.redolog.specs.Log.{read_log, encode_log, well_formed_log}
use Rattle.redolog.proofs.StoreLaws.{drop_zeros}
use Rattle.redolog.proofs.Torn.{log_padded}
use Rattle.transaction.proofs.Lists.{length_up, all_up}
use Rattle.image.specs.declared.Image.{Image}
use Rattle.image.specs.Rules.{keeps_rules}
use Rattle.image.proofs.Rules.{image_count, ruled_at}
use Rattle.restart.specs.declared.forward.Pass.{Pass}
use Rattle.image.specs.Content.{transactions_in}
use Rattle.restart.specs.Slots.{transaction_at, filter_below}
use Rattle.std.specs.Prelude.{Option as Maybe, None}
use Rattle.std.specs.Option.{option_or}
use Rattle.restart.specs.declared.forward.Ending.{Ending}
use Rattle.restart.specs.Forward.{Endings, open_at, start_of, groups_of, forward_of}
use Rattle.restart.specs.Undo.{is_running, is_lost, running_at, lost_at, lost_by, running_of, lost_of, undone_of}
use Rattle.restart.specs.Restart.{recover_of}
use Rattle.restart.specs.Turns.{undone_list, undone_ids, aborts_laid}
use Rattle.restart.proofs.SlotLaws.{filter_up, txs_up}
use Rattle.restart.proofs.Undos.{aborts_length, laid_all}
use Rattle.restart.proofs.Passed.{none_at, highest_id, ids_below, counted, first_ending, endings_from, unused_endings, Marks, Seen, started}

abbrev pub zeros : ℕ → List ℕ
zeros n = replicate n 0

-- ---- how many step 4 undoes

-- what step 4 undoes, by recovery
abbrev pub undone_by : Image → List ℕ → List Tx
undone_by image log = undone (transactions_in image) image.ondisk.0 (groups_of image log)

filter_few : (p : Tx → Bool) (ts : List Tx) → length (filter p ts) ≤ length ts
filter_few p [] = omega arith
filter_few p (t ∷ ts) = go (p t) (filter_few p ts)
  where
    go : (b : Bool) → length (filter p ts) ≤ length ts → length (cond b (t ∷ filter p ts) (filter p ts)) ≤ suc (length ts)
    go true h = omega arith
    go false h = omega arith

both_kinds : (ts : List Tx) → length (running ts) + length (committing ts) ≡ length ts
both_kinds [] = refl
both_kinds (t ∷ ts) = go t.committing (both_kinds ts)
  where
    go : (b : Bool) → length (running ts) + length (committing ts) ≡ length ts
        → length (cond (not b) (t ∷ running ts) (running ts)) + length (cond b (t ∷ committing ts) (committing ts)) ≡ suc (length ts)
    go true h = omega arith
    go false h = omega arith

-- no more than the image lists
pub undone_few : (image : Image) (log : List ℕ) → length (undone_by image log) ≤ image.count
unfolding undo_order
undone_few image log =
    let txs = transactions_in image in
    let n = last_csn image.ondisk.0 (groups_of image log) in
    let late = above n (committing txs) in
    omega (
      arith,
      filter_few (λ t. not (has t.id (finished (groups_of image log) []))) (undo_order txs n),
      length-append (running txs) (sort_desc late),
      sort_length late,
      filter_few (λ t. ltb n t.csn) (committing txs),
      both_kinds txs,
      ap length (txs_up image) ∙ length_up (transaction_at image) image.count 0,
    )

module _ (image : Image) (ok : keeps_rules image ≡ true) where
  -- ---- step 4, for endings that mark the finished ids

  module _ (found : Endings) (f : List ℕ) (marks : Marks image ok found f) where
    abbrev open? : Tx → Bool
    open? t = not (has t.id f)

    abbrev runs : Tx → Bool
    runs t = not t.committing && open? t

    running_is : filter_below (running_at image found) (transaction_at image) image.count ≡ unfinished f (running (transactions_in image))
    unfolding is_running
    running_is =
        filter_up (running_at image found) runs (transaction_at image) image.count
        (λ j h. one (open_at found j) (transaction_at image j).committing _ _ (marks j h) (ruled_at image ok j h).kind)
        ∙ ap (filter runs) (sym (txs_up image))
        ∙ sym (filter_filter open? (λ t. not t.committing) runs (λ t. refl) (transactions_in image))
      where
        one : (a b x y : Bool) → x ≡ not a → y ≡ not b → (a && y) ≡ (not b && not x)
        one true true x y p q = q
        one true false x y p q = rw (p, q)
        one false true x y p q = refl
        one false false x y p q = rw p

    module _ (n : ℕ) where
      abbrev high : Tx → Bool
      high t = t.committing && ltb n t.csn

      abbrev lost : Tx → Bool
      lost t = high t && open? t

      lost_is : lost_by image found n ≡ unfinished f (above n (committing (transactions_in image)))
      unfolding is_lost
      lost_is =
          filter_up (lost_at image found n) lost (transaction_at image) image.count
          (λ j h. one (open_at found j) (transaction_at image j).committing (ltb n (transaction_at image j).csn) _ (marks j h))
          ∙ ap (filter lost) (sym (txs_up image))
          ∙ sym
          (ap (filter open?) (filter_filter (λ t. ltb n t.csn) (λ t. t.committing) high (λ t. refl) (transactions_in image))
          ∙ filter_filter open? high lost (λ t. refl) (transactions_in image))
        where
          one : (a b l x : Bool) → x ≡ not a → (a && b && l) ≡ (b && l && not x)
          one true true true x p = rw p
          one true true false x p = refl
          one true false l x p = refl
          one false true true x p = rw p
          one false true false x p = refl
          one false false l x p = refl

  undone_by_lem : (p : Pass) (f : List ℕ) → Marks image ok p.found f → undone_of image p ≡ unfinished f (undo_order (transactions_in image) p.csn.0)
  unfolding running_of lost_of undo_order
  undone_by_lem p f marks =
      let late = above p.csn.0 (committing (transactions_in image)) in
      ap₂ (λ (xs ys : List Tx). xs ++ ys) (running_is p.found f marks)
      (ap sort_desc (lost_is p.found f marks p.csn.0) ∙ sym (filter_sort (λ t. not (has t.id f)) late))
      ∙ sym (filter_append (λ t. not (has t.id f)) (running (transactions_in image)) (sort_desc late))

  -- ---- the whole

  module _ (log m : List ℕ) where
    passed : Seen image ok (groups_of image log) (start_of image m) []
    passed = started image ok (groups_of image log) m

    -- those undone in step 4, in order
    pub undone_is : undone_of image (forward_of image log m).pass ≡ undone_by image log
    unfolding forward_of
    undone_is =
        undone_by_lem (forward_of image log m).pass (finished (groups_of image log) []) passed.marks
        ∙ ap (λ (n : ℕ). unfinished (finished (groups_of image log) []) (undo_order (transactions_in image) n))
        (counted image (groups_of image log) (start_of image m)).csn

    module _ (tail : List ℕ) where
      pub memory_is : (recover_of image log m tail).memory ≡ recover lay_bytes (transactions_in image) image.ondisk.0 (groups_of image log) m
      unfolding recover_of forward_of
      memory_is = ap₂ (λ (ts : List Tx) (x : List ℕ). undo_each lay_bytes ts x) undone_is passed.memory

      pub count_is : (recover_of image log m tail).answer.undone ≡ length (undone_by image log)
      unfolding recover_of
      count_is = ap length undone_is

      pub end_is : (recover_of image log m tail).answer.end ≡ groups_size (groups_of image log)
      unfolding recover_of forward_of
      end_is = omega (arith, (counted image (groups_of image log) (start_of image m)).end)

      pub csn_is : (recover_of image log m tail).answer.csn.0 ≡ last_csn image.ondisk.0 (groups_of image log)
      unfolding recover_of forward_of
      csn_is = (counted image (groups_of image log) (start_of image m)).csn

      -- the last id: "the larger of the image's and the highest in the groups read"
      pub last_is : (recover_of image log m tail).answer.last.0 ≡ max image.lastid.0 (highest_id (groups_of image log))
      unfolding recover_of forward_of
      last_is = (counted image (groups_of image log) (start_of image m)).last

      -- it is at least the image's, each id in the image and in the groups read
      pub last_above_last : image.lastid.0 ≤ (recover_of image log m tail).answer.last.0
      last_above_last = let l = last_is in omega arith

      pub last_above_image : All (λ t. t.id ≤ (recover_of image log m tail).answer.last.0) (transactions_in image)
      last_above_image =
          rw txs_up (all_up (transaction_at image) image.count 0
          (λ j a b. let g = (ruled_at image ok j (omega arith)).given in let l = last_is in omega arith))

      pub last_above_groups : All (λ g. group_id g ≤ (recover_of image log m tail).answer.last.0) (groups_of image log)
      last_above_groups = let l = last_is in all_map (λ g h. omega arith) (ids_below (groups_of image log))

      -- how each transaction ends: the first group of its id decides; none in slots that are not used
      pub ending_is : (i : ℕ) → i < image.count
          → get_or (recover_of image log m tail).answer.found i None ≡ first_ending (transaction_at image i).id (groups_of image log)
      unfolding recover_of forward_of
      ending_is i h =
          endings_from image ok (groups_of image log) (start_of image m) i refl h
          ∙ ap (λ (x : Maybe Ending). option_or x (first_ending (transaction_at image i).id (groups_of image log))) (none_at 8 i)

      pub ending_unused : (i : ℕ) → image.count ≤ i → get_or (recover_of image log m tail).answer.found i None ≡ None
      unfolding recover_of forward_of
      ending_unused i h = unused_endings image (groups_of image log) (start_of image m) i h ∙ none_at 8 i

      -- the abort records of the ids handed on make the tail
      pub laid_tail : aborts_laid (undone_ids image log m) (recover_of image log m tail).answer.undone tail ≡ (recover_of image log m tail).tail
      unfolding recover_of undone_ids undone_list
      laid_tail =
          let few = undone_few image log in
          let most = image_count image ok in
          laid_all (undone_of image (forward_of image log m).pass) tail (omega (arith, ap length undone_is))

    -- ---- the tail

    -- a tail of zeros has the abort records of those undone, and zeros after them
    pub tail_is : (recover_of image log m (zeros 16384)).tail ≡ encode_log (aborts (undone_by image log)) ++ zeros (16384 - 4 * length (undone_by image log))
    unfolding recover_of
    tail_is =
        let xs = encode_log (aborts (undone_by image log)) in
        let l = aborts_length (undone_by image log) in
        let few = undone_few image log in
        let most = image_count image ok in
        let z : 0 + length xs ≤ length (zeros 16384) = omega (arith, length-replicate {A = ℕ} 16384 0) in
        let e : 0 + length xs ≡ 4 * length (undone_by image log) = omega arith in
        ap (λ (ts : List Tx). sets (zeros 16384) 0 (encode_log (aborts ts))) undone_is
        ∙ sets-eq xs (zeros 16384) 0 z
        ∙ ap (λ (k : ℕ). xs ++ drop k (zeros 16384)) e
        ∙ ap (λ (ys : List ℕ). xs ++ ys) (drop_zeros (4 * length (undone_by image log)) 16384)

    aborts_well : (prev : ℕ) {ts : List Tx} → All (λ t. 1 ≤ t.id) ts → well_formed_log prev (aborts ts) ≡ true
    aborts_well prev nil = refl
    aborts_well prev (cons {x} h hs) = rw (ne_eqb x.id 0 (λ e. omega arith)) (aborts_well prev hs)

    -- it is read back as exactly those groups, after any commit number
    pub tail_read : (prev : ℕ) → read_log prev (recover_of image log m (zeros 16384)).tail ≡ aborts (undone_by image log)
    tail_read prev =
        let named : All (λ t. 1 ≤ t.id) (transactions_in image) =
        rw txs_up (all_up (transaction_at image) image.count 0 (λ j a b. (ruled_at image ok j (omega arith)).named)) in
        ap (read_log prev) tail_is
        ∙ log_padded prev (aborts (undone_by image log)) (16384 - 4 * length (undone_by image log))
        (aborts_well prev (all_filter (λ t. not (has t.id (finished (groups_of image log) [])))
        (order_all (transactions_in image) (last_csn image.ondisk.0 (groups_of image log)) named)))
