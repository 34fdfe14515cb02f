-- What the code's answers, of a record and of a group, say of what was read. `cc` takes no struct out of a constructor, so an equation of two
-- answers goes to its numbers by projections.
use Prim.Native.Nat.{ℕ, ◌+◌}
use native.Mathlib.Omega.{arith}
use mathlib.Core.List.{List}
use mathlib.Core.Option.{Option, none, some}
use mathlib.Core.Path.{◌≡◌, refl, sym, ap, ap₂}
use lib.ListN.{length}
use Rattle.std.specs.Prelude.{Result, Ok, Err}
use Rattle.recovery.specs.Group.{Write, Group, committed, aborted, redo_size}
use Rattle.redolog.specs.Record.{Record, redo, commit, abort, head_of}
use Rattle.redolog.specs.Group.{end_of}
use Rattle.redolog.specs.declared.TxId.{TxId}
use Rattle.redolog.specs.declared.Csn.{Csn}
use Rattle.redolog.specs.declared.record.Record.{Record as Head}
use Rattle.redolog.specs.declared.record.Record.TheVariants.{Redo, Commit, Abort}
use Rattle.redolog.specs.declared.group.GroupEnd.{GroupEnd}
use Rattle.redolog.specs.declared.group.GroupEnd.TheVariants.{Aborted, Committed}
use Rattle.redolog.specs.declared.stop.Stop.{Stop}
use Rattle.redolog.proofs.Basics.{clash}

abbrev head_id : Result Head Stop → ℕ
head_id (Ok (Redo i a n)) = i.0
head_id (Ok (Commit n i)) = i.0
head_id (Ok (Abort i)) = i.0
head_id (Err q) = 0

abbrev head_csn : Result Head Stop → ℕ
head_csn (Ok (Redo i a n)) = 0
head_csn (Ok (Commit n i)) = n.0
head_csn (Ok (Abort i)) = 0
head_csn (Err q) = 0

pub head_redo : (why : Stop) (x : Option Record) (i : TxId) (a n : ℕ) → head_of why x ≡ Ok (Redo i a n)
    → (w : Write) × (x ≡ some (redo i.0 w)) × (w.addr ≡ a) × (length w.bytes ≡ n)
head_redo why none i a n e = clash (cc)
head_redo why (some (redo j w)) i a n e = (w, ap (λ (k : ℕ). some (redo k w)) (ap head_id e), cc, cc)
head_redo why (some (commit j m)) i a n e = clash (cc)
head_redo why (some (abort j)) i a n e = clash (cc)

pub head_commit : (why : Stop) (x : Option Record) (i : TxId) (n : Csn) → head_of why x ≡ Ok (Commit n i) → x ≡ some (commit i.0 n.0)
head_commit why none i n e = clash (cc)
head_commit why (some (redo j w)) i n e = clash (cc)
head_commit why (some (commit j m)) i n e = ap₂ (λ (x y : ℕ). some (commit x y)) (ap head_id e) (ap head_csn e)
head_commit why (some (abort j)) i n e = clash (cc)

pub head_abort : (why : Stop) (x : Option Record) (i : TxId) → head_of why x ≡ Ok (Abort i) → x ≡ some (abort i.0)
head_abort why none i e = clash (cc)
head_abort why (some (redo j w)) i e = clash (cc)
head_abort why (some (commit j m)) i e = clash (cc)
head_abort why (some (abort j)) i e = ap (λ (x : ℕ). some (abort x)) (ap head_id e)

pub head_nothing : (why : Stop) (x : Option Record) (q : Stop) → head_of why x ≡ Err q → (x ≡ none) × (q ≡ why)
head_nothing why none q e = (refl, cc)
head_nothing why (some (redo j w)) q e = clash (cc)
head_nothing why (some (commit j m)) q e = clash (cc)
head_nothing why (some (abort j)) q e = clash (cc)

abbrev end_id : Result GroupEnd Stop → ℕ
end_id (Ok (Aborted i k)) = i.0
end_id (Ok (Committed i n k)) = i.0
end_id (Err q) = 0

abbrev end_csn : Result GroupEnd Stop → ℕ
end_csn (Ok (Aborted i k)) = 0
end_csn (Ok (Committed i n k)) = n.0
end_csn (Err q) = 0

abbrev end_at : Result GroupEnd Stop → ℕ
end_at (Ok (Aborted i k)) = k
end_at (Ok (Committed i n k)) = k
end_at (Err q) = 0

pub end_aborted : (why : Stop) (x : Option Group) (i : TxId) (k : ℕ) → end_of why x ≡ Ok (Aborted i k) → (x ≡ some (aborted i.0)) × (k ≡ 4)
end_aborted why none i k e = clash (cc)
end_aborted why (some (committed j m ws)) i k e = clash (cc)
end_aborted why (some (aborted j)) i k e = (ap (λ (x : ℕ). some (aborted x)) (ap end_id e), sym (ap end_at e))

pub end_committed : (why : Stop) (x : Option Group) (i : TxId) (n : Csn) (k : ℕ) → end_of why x ≡ Ok (Committed i n k)
    → (ws : List Write) × (x ≡ some (committed i.0 n.0 ws)) × (k ≡ redo_size ws + 8)
end_committed why none i n k e = clash (cc)
end_committed why (some (committed j m ws)) i n k e =
    (ws, ap₂ (λ (x y : ℕ). some (committed x y ws)) (ap end_id e) (ap end_csn e), omega (arith, ap end_at e))
end_committed why (some (aborted j)) i n k e = clash (cc)

pub end_none : (why : Stop) (x : Option Group) (q : Stop) → end_of why x ≡ Err q → (x ≡ none) × (q ≡ why)
end_none why none q e = (refl, cc)
end_none why (some (committed j m ws)) q e = clash (cc)
end_none why (some (aborted j)) q e = clash (cc)
