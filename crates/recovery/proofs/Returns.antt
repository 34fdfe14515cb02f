-- What going back leaves in memory: each byte written since the savepoint reads as just before the first such write, every other byte as before.
use mathlib.Core.Path.{◌≡◌, refl, sym, ap, ◌∙◌, subst}
use mathlib.Core.Logic.{◌≢◌}
use mathlib.Core.Bool.{Bool, true, false, cond}
use mathlib.Core.Option.{Option, none, some}
use mathlib.Core.List.{List, [], ◌∷◌, ◌++◌, append_assoc, append-nil, reverse, reverse-cons}
use Prim.Native.Nat.{ℕ, suc, ◌≤◌, ◌<◌}
use native.Mathlib.Omega.{arith}
use lib.Dec.{eqb}
use lib.ListN.{length, length-take, get_or, take, drop, take-append-drop}
use lib.Seq.{ext_get_or, length-sets}
use Rattle.recovery.specs.Group.{Write}
use Rattle.recovery.specs.Lists.{All, nil, cons}
use Rattle.recovery.specs.Transaction.{Tx, edit}
use Rattle.recovery.specs.Replay.{redo_all, undo_all, lay_bytes, old_bytes, olds_of}
use Rattle.recovery.specs.Ledger.{Ledger, committed_memory, taken_back}
use Rattle.recovery.specs.Machine.{Opening, Disk, Live, Listed, with_write, after_write, after_writes, after_go_back}
use Rattle.recovery.proofs.Bool.{some_none}
use Rattle.recovery.proofs.Lists.{else_none, else_next, else_both, all_right}
use Rattle.recovery.proofs.Byte.{act, seen, seen_at, oldest, newest, newest_append, laid_byte, undo_oldest, redo_length, undo_byte}
use Rattle.recovery.proofs.LiveByte.{Touch, miss, hit}
use Rattle.recovery.proofs.Records.{Within, redo_append, olds_drop}
use Rattle.recovery.proofs.Invariant.{Up, base_memory, base_length, recorded}
use Rattle.recovery.proofs.WriteStep.{touch}
use Rattle.recovery.proofs.GoBackStep.{ledger_memory}

-- ---- memory after a return

redo_reverse : {M : Type 0} (lay : Write → M → M) (us : List Write) (m : M) → redo_all lay (reverse us) m ≡ undo_all lay us m
redo_reverse lay [] m = refl
redo_reverse {M = M} lay (u ∷ us) m =
    ap (λ (ws : List Write). redo_all lay ws m) (reverse-cons u us) ∙ (redo_append lay (reverse us) (u ∷ []) m ∙ ap (λ (x : M). lay u x) (redo_reverse lay us m))

writes_memory : (ws : List Write) (r : Tx) (l : Live) → (after_writes r ws l).memory ≡ redo_all lay_bytes ws l.memory
writes_memory [] r l = refl
writes_memory (w ∷ ws) r l = writes_memory ws (with_write (old_bytes w l.memory) w r) (after_write r w l)

-- it is as if the later writes were undone
pub return_memory : (r : Tx) (n : ℕ) (l : Live) → (after_go_back r n l).memory ≡ undo_all lay_bytes (drop n r.undo) l.memory
return_memory r n l = writes_memory (reverse (drop n r.undo)) r l ∙ redo_reverse lay_bytes (drop n r.undo) l.memory

-- A byte reads as the first later write over it found it, which its undo record says; or as before, where there is none.
pub return_byte : (r : Tx) (n : ℕ) (l : Live) (a : ℕ) → a < length l.memory
    → get_or (after_go_back r n l).memory a 0 ≡ act (oldest a (drop n r.undo)) (get_or l.memory a 0)
return_byte r n l a h =
    ap (λ (m : List ℕ). get_or m a 0) (return_memory r n l)
    ∙ (undo_byte (length l.memory) l.memory refl a h (drop n r.undo) ∙ undo_oldest a (drop n r.undo) (get_or l.memory a 0))

-- ---- the whole live state after writes one after the other

-- records added at the end
abbrev pub with_records : List Write → List Write → Tx → Tx
with_records us ws t =
    record { id = t.id; committing = t.committing; csn = t.csn; undo = t.undo ++ us; redo = t.redo ++ ws; savepoints = t.savepoints }

edit_nothing : (i : ℕ) (txs : List Tx) → edit i (with_records [] []) txs ≡ txs
edit_nothing i [] = refl
edit_nothing i (t ∷ ts) = go (eqb i t.id) (edit_nothing i ts)
  where
    go : (b : Bool) → edit i (with_records [] []) ts ≡ ts → cond b (with_records [] [] t ∷ ts) (t ∷ edit i (with_records [] []) ts) ≡ t ∷ ts
    go true e = rw (append-nil t.undo, append-nil t.redo) refl
    go false e = ap (λ (us : List Tx). t ∷ us) e

edit_more : (i : ℕ) (u w : Write) (us ws : List Write) (txs : List Tx)
    → edit i (with_records us ws) (edit i (with_write u w) txs) ≡ edit i (with_records (u ∷ us) (w ∷ ws)) txs
edit_more i u w us ws [] = refl
edit_more i u w us ws (t ∷ ts) = go (eqb i t.id) refl (edit_more i u w us ws ts)
  where
    go : (b : Bool) → eqb i t.id ≡ b → edit i (with_records us ws) (edit i (with_write u w) ts) ≡ edit i (with_records (u ∷ us) (w ∷ ws)) ts
        → edit i (with_records us ws) (cond b (with_write u w t ∷ ts) (t ∷ edit i (with_write u w) ts))
        ≡ cond b (with_records (u ∷ us) (w ∷ ws) t ∷ ts) (t ∷ edit i (with_records (u ∷ us) (w ∷ ws)) ts)
    go true p e = rw (p, append_assoc t.undo (u ∷ []) us, append_assoc t.redo (w ∷ []) ws) refl
    go false p e = rw (p, e) refl

-- each write adds an undo record with what stands there then, and a redo record
pub writes_live : (ws : List Write) (r : Tx) (l : Live)
    → after_writes r ws l
    ≡ record {
      txs = edit r.id (with_records (olds_of l.memory ws) ws) l.txs;
      memory = redo_all lay_bytes ws l.memory;
      tail = l.tail;
      csn = l.csn;
      last_id = l.last_id;
    }
writes_live [] r l =
    ap (λ (ts : List Tx). record { txs = ts; memory = l.memory; tail = l.tail; csn = l.csn; last_id = l.last_id }) (sym (edit_nothing r.id l.txs))
writes_live (w ∷ ws) r l =
    let m : List ℕ = lay_bytes w l.memory in
    writes_live ws (with_write (old_bytes w l.memory) w r) (after_write r w l)
    ∙ ap (λ (ts : List Tx). record { txs = ts; memory = redo_all lay_bytes ws m; tail = l.tail; csn = l.csn; last_id = l.last_id })
    (edit_more r.id (old_bytes w l.memory) w (olds_of m ws) ws l.txs)

-- ---- what the commits and the writes up to the savepoint leave is what a return leaves

module _ (k a : ℕ) (h : a < k) where
  -- the oldest of the old bytes of writes over a byte is what stood there first
  pub olds_first : (ws : List Write) (m : List ℕ) → length m ≡ k → All (Within k) ws → newest a ws ≢ none → oldest a (olds_of m ws) ≡ some (get_or m a 0)
  olds_first [] m l nil s = absurd (s refl)
  olds_first (w ∷ ws) m l (cons b bs) s =
      go (touch a m w [] (rw l h) (rw l b) (λ _. nil)) (λ q. olds_first ws (lay_bytes w m) (length-sets m w.addr w.bytes ∙ l) bs q)
    where
      go : Touch a (get_or m a 0) (get_or (lay_bytes w m) a 0) (old_bytes w m) w []
          → (newest a ws ≢ none → oldest a (olds_of (lay_bytes w m) ws) ≡ some (get_or (lay_bytes w m) a 0)) → oldest a (olds_of m (w ∷ ws)) ≡ some (get_or m a 0)
      go (miss p r e) f = rw p (f (λ q. s (rw (q, r) refl)) ∙ ap some e)
      go (hit p r q) f = rw p refl

  olds_none : (ws : List Write) (m : List ℕ) → length m ≡ k → All (Within k) ws → newest a ws ≡ none → oldest a (olds_of m ws) ≡ none
  olds_none [] m l nil e = refl
  olds_none (w ∷ ws) m l (cons b bs) e =
      go (touch a m w [] (rw l h) (rw l b) (λ _. nil)) (λ q. olds_none ws (lay_bytes w m) (length-sets m w.addr w.bytes ∙ l) bs q)
    where
      go : Touch a (get_or m a 0) (get_or (lay_bytes w m) a 0) (old_bytes w m) w [] → (newest a ws ≡ none → oldest a (olds_of (lay_bytes w m) ws) ≡ none)
          → oldest a (olds_of m (w ∷ ws)) ≡ none
      go (miss p r q) f = rw p (f (else_none (newest a ws) ∙ (rw r at e)))
      go (hit p r q) f = absurd (else_next (newest a ws) (seen a w) (some_none r) e)

-- ---- a write set with a return in it leaves what its writes up to the savepoint leave

-- the old bytes over the new ones
lay_old : (k : ℕ) (w : Write) (m : List ℕ) → length m ≡ k → Within k w → lay_bytes (old_bytes w m) (lay_bytes w m) ≡ m
lay_old k w m l b =
    let m' : List ℕ = lay_bytes w m in
    let l' : length (lay_bytes w m) ≡ k = length-sets m w.addr w.bytes ∙ l in
    let l'' : length (lay_bytes (old_bytes w m) (lay_bytes w m)) ≡ k = length-sets m' w.addr (old_bytes w m).bytes ∙ l' in
    ext_get_or 0 (lay_bytes (old_bytes w m) m') m (l'' ∙ sym l)
    (λ a h.
    let inside : a < k = rw l'' at h in
    laid_byte a (old_bytes w m) m' (rw l' inside) ∙ go a (touch a m w [] (rw l inside) (rw l b) (λ _. nil)))
  where
    go : (a : ℕ) → Touch a (get_or m a 0) (get_or (lay_bytes w m) a 0) (old_bytes w m) w [] → act (seen a (old_bytes w m)) (get_or (lay_bytes w m) a 0) ≡ get_or m a 0
    go a (miss p q e) = rw p e
    go a (hit p q e) = rw p refl

undo_olds : (k : ℕ) (ws : List Write) (m : List ℕ) → length m ≡ k → All (Within k) ws → undo_all lay_bytes (olds_of m ws) (redo_all lay_bytes ws m) ≡ m
undo_olds k [] m l nil = refl
undo_olds k (w ∷ ws) m l (cons b bs) =
    ap (λ (x : List ℕ). lay_bytes (old_bytes w m) x) (undo_olds k ws (lay_bytes w m) (length-sets m w.addr w.bytes ∙ l) bs) ∙ lay_old k w m l b

pub return_cancels : (k n : ℕ) (ws : List Write) (m : List ℕ) → length m ≡ k → All (Within k) ws
    → redo_all lay_bytes (ws ++ taken_back m (some n) ws) m ≡ redo_all lay_bytes (take n ws) m
return_cancels k n ws m l b =
    let stood : List ℕ = redo_all lay_bytes (take n ws) m in
    let later : redo_all lay_bytes ws m ≡ redo_all lay_bytes (drop n ws) stood =
    ap (λ (vs : List Write). redo_all lay_bytes vs m) (sym (take-append-drop n ws)) ∙ redo_append lay_bytes (take n ws) (drop n ws) m in
    redo_append lay_bytes ws (taken_back m (some n) ws) m
    ∙ (redo_reverse lay_bytes (olds_of stood (drop n ws)) (redo_all lay_bytes ws m)
    ∙ (ap (λ (x : List ℕ). undo_all lay_bytes (olds_of stood (drop n ws)) x) later
    ∙ undo_olds k (drop n ws) stood (redo_length k m l (take n ws)) (all_right (take n ws) (subst (All (Within k)) (sym (take-append-drop n ws)) b))))

-- ---- a return writes where the transaction has written, and nowhere else

seen_shorter : (a i : ℕ) (bs es : List ℕ) → length es ≤ length bs → seen_at a i bs ≡ none → seen_at a i es ≡ none
seen_shorter a i bs [] h e = refl
seen_shorter a i [] (x ∷ es) h e = absurd (omega arith)
seen_shorter a i (b ∷ bs) (x ∷ es) h e = go (eqb a i) e (λ q. seen_shorter a (suc i) bs es (omega arith) q)
  where
    go : (c : Bool) → cond c (some b) (seen_at a (suc i) bs) ≡ none → (seen_at a (suc i) bs ≡ none → seen_at a (suc i) es ≡ none)
        → cond c (some x) (seen_at a (suc i) es) ≡ none
    go true q f = absurd (some_none {x = b} refl q)
    go false q f = f q

module _ (a : ℕ) where
  old_leaves : (w : Write) (m : List ℕ) → seen a w ≡ none → seen a (old_bytes w m) ≡ none
  old_leaves w m e = seen_shorter a w.addr w.bytes (old_bytes w m).bytes (omega (arith, length-take (length w.bytes) (drop w.addr m))) e

  olds_leave : (ws : List Write) (m : List ℕ) → newest a ws ≡ none → newest a (olds_of m ws) ≡ none
  olds_leave [] m e = refl
  olds_leave (w ∷ ws) m e =
      let p : (newest a ws ≡ none) × (seen a w ≡ none) = else_both (newest a ws) (seen a w) e in
      rw (olds_leave ws (lay_bytes w m) p.0) (old_leaves w m p.1)

  reverse_leaves : (ws : List Write) → newest a ws ≡ none → newest a (reverse ws) ≡ none
  reverse_leaves [] e = refl
  reverse_leaves (w ∷ ws) e =
      let p : (newest a ws ≡ none) × (seen a w ≡ none) = else_both (newest a ws) (seen a w) e in
      ap (newest a) (reverse-cons w ws) ∙ (newest_append a (reverse ws) (w ∷ []) ∙ rw p.1 (reverse_leaves ws p.0))

  drop_leaves : (n : ℕ) (ws : List Write) → newest a ws ≡ none → newest a (drop n ws) ≡ none
  drop_leaves n ws e =
      (else_both (newest a (drop n ws)) (newest a (take n ws)) (sym (newest_append a (take n ws) (drop n ws)) ∙ (ap (newest a) (take-append-drop n ws) ∙ e))).0

  pub taken_leaves : (m : List ℕ) (c : Option ℕ) (ws : List Write) → newest a ws ≡ none → newest a (taken_back m c ws) ≡ none
  taken_leaves m none ws e = refl
  taken_leaves m (some n) ws e =
      let stood : List ℕ = redo_all lay_bytes (take n ws) m in
      reverse_leaves (olds_of stood (drop n ws)) (olds_leave (drop n ws) stood (drop_leaves n ws e))

module _ (o : Opening) (d : Disk) (l : Live) (k : Ledger) (u : Up o d l k) (r : Tx) (listed : Listed r l.txs) (run : r.committing ≡ false)
    (n a : ℕ) (h : a < o.size) where
  -- what the commits and the first n writes leave
  abbrev stood : List ℕ
  stood = redo_all lay_bytes (take n r.redo) (base_memory o d l)

  stood_length : length stood ≡ o.size
  stood_length = redo_length o.size (base_memory o d l) (base_length o d l) (take n r.redo)

  later : drop n r.undo ≡ olds_of stood (drop n r.redo)
  later = ap (drop n) (recorded o d l k u r listed run).olds ∙ olds_drop n r.redo (base_memory o d l)

  later_within : All (Within o.size) (drop n r.redo)
  later_within =
      all_right (take n r.redo) (subst (All (Within o.size)) (sym (take-append-drop n r.redo)) (recorded o d l k u r listed run).within)

  byte_now : get_or (after_go_back r n l).memory a 0 ≡ act (oldest a (drop n r.undo)) (get_or l.memory a 0)
  byte_now = return_byte r n l a (rw u.live_length h)

  -- a byte written since: what the ledger's commits and the transaction's writes up to the savepoint leave there
  pub return_reads : newest a (drop n r.redo) ≢ none
      → get_or (after_go_back r n l).memory a 0 ≡ get_or (redo_all lay_bytes (take n r.redo) (committed_memory k)) a 0
  return_reads s =
      byte_now
      ∙ (ap (λ (x : Option ℕ). act x (get_or l.memory a 0))
      (ap (oldest a) later ∙ olds_first o.size a h (drop n r.redo) stood stood_length later_within s)
      ∙ ap (λ (m : List ℕ). get_or (redo_all lay_bytes (take n r.redo) m) a 0) (sym (ledger_memory o d l k u)))

  pub later_none : newest a (drop n r.redo) ≡ none → oldest a (drop n r.undo) ≡ none
  later_none e = ap (oldest a) later ∙ olds_none o.size a h (drop n r.redo) stood stood_length later_within e

  -- any other byte stays
  pub return_leaves : newest a (drop n r.redo) ≡ none → get_or (after_go_back r n l).memory a 0 ≡ get_or l.memory a 0
  return_leaves e = byte_now ∙ ap (λ (x : Option ℕ). act x (get_or l.memory a 0)) (later_none e)
