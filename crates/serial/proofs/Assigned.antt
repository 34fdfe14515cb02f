-- Those assigned while the store is up, the durable and then the queued, and what each rule makes of them.
use Prim.Native.Nat.{ℕ, zero, suc}
use mathlib.Core.Path.{◌≡◌, refl, sym, ap, ◌∙◌}
use mathlib.Core.List.{List, [], ◌∷◌, ◌++◌, append_assoc, append-nil}
use lib.ListN.{length, take, drop, replicate}
use Rattle.recovery.specs.Ledger.{fitting_entries}
use Rattle.serial.specs.Ledger.{CommitWithReads, EntryWithReads, commit, abort, LedgerWithReads, entries_in, committed_of, entry_for, note_precommitted}
use Rattle.serial.specs.Ledger.{note_rolled_back, leaving, note_flushed, note_restarted}

abbrev pub assigned_in : LedgerWithReads → List CommitWithReads
assigned_in k = k.durable ++ committed_of k.queue

committed_append : (es fs : List EntryWithReads) → committed_of (es ++ fs) ≡ committed_of es ++ committed_of fs
committed_append [] fs = refl
committed_append (commit c ∷ es) fs = ap (λ (l : List CommitWithReads). c ∷ l) (committed_append es fs)
committed_append (abort ∷ es) fs = committed_append es fs

committed_split : (n : ℕ) (es : List EntryWithReads) → committed_of (take n es) ++ committed_of (drop n es) ≡ committed_of es
committed_split zero es = refl
committed_split (suc n) [] = refl
committed_split (suc n) (commit c ∷ es) = ap (λ (l : List CommitWithReads). c ∷ l) (committed_split n es)
committed_split (suc n) (abort ∷ es) = committed_split n es

committed_aborts : (n : ℕ) → committed_of (replicate n abort) ≡ []
committed_aborts zero = refl
committed_aborts (suc n) = committed_aborts n

pub assigned_precommitted : (i n : ℕ) (k : LedgerWithReads) → assigned_in (note_precommitted i n k) ≡ assigned_in k ++ (entry_for i n k ∷ [])
assigned_precommitted i n k =
    ap (λ (l : List CommitWithReads). k.durable ++ l) (committed_append k.queue (commit (entry_for i n k) ∷ []))
    ∙ sym (append_assoc k.durable (committed_of k.queue) (entry_for i n k ∷ []))

pub assigned_rolled_back : (i : ℕ) (k : LedgerWithReads) → assigned_in (note_rolled_back i k) ≡ assigned_in k
assigned_rolled_back i k =
    ap (λ (l : List CommitWithReads). k.durable ++ l) (committed_append k.queue (abort ∷ []) ∙ append-nil (committed_of k.queue))

assigned_leaving : (n : ℕ) (k : LedgerWithReads) → assigned_in (leaving n k) ≡ assigned_in k
assigned_leaving n k =
    append_assoc k.durable (committed_of (take n k.queue)) (committed_of (drop n k.queue))
    ∙ ap (λ (l : List CommitWithReads). k.durable ++ l) (committed_split n k.queue)

pub assigned_flushed : (q allowed : ℕ) (k : LedgerWithReads) → assigned_in (note_flushed q allowed k) ≡ assigned_in k
assigned_flushed q allowed k = assigned_leaving (length (fitting_entries allowed (take q (entries_in k.queue)))) k

pub assigned_restarted : (undone : ℕ) (k : LedgerWithReads) → assigned_in (note_restarted undone k) ≡ k.durable
assigned_restarted undone k = ap (λ (l : List CommitWithReads). k.durable ++ l) (committed_aborts undone) ∙ append-nil k.durable
