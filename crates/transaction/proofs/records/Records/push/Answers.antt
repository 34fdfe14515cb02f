use Rattle.std.proofs.Common.{◌≡◌, ℕ, ◌+◌, ◌-◌, ◌*◌, ◌≤◌, List, length, sym, ap, ◌∙◌, arith}
use Rattle.std.proofs.lemmas.List.Edits.{sets, sets-eq}
use Rattle.std.proofs.lemmas.Slice.{put_mid-paste}
use borrow.Rule.Slice.PartMut.{put_mid}
use lib.Seq.{take_all}
use Rattle.transaction.specs.Steps.{pushed}
use Rattle.transaction.proofs.Pushed.{holding}
use Rattle.transaction.proofs.records.Records.push.Goals as goal

-- bytes copied over a part are set there
copied : (xs ys zs : List ℕ) (a k : ℕ) → ys ≡ zs → k ≡ length zs → a + length zs ≤ length xs → put_mid a k xs ys ≡ sets xs a zs
copied xs ys zs a k e f h =
    put_mid-paste a k xs ys zs (length zs) e (sym f) (omega arith)
    ∙ rw (take_all (length zs) zs (omega arith)) (sym (sets-eq zs xs a h))

pub returns : goal.returns
unfolding pushed
returns c =
    let r = c.args.self in
    let n = length c.args.src.now in
    let at = r.ranges.count * 32 in
    let e = copied r.bytes c.copy_from_slice.new.self c.args.src.now at (at + n - at) (cc) (omega arith) (omega (arith, c.well_formed)) in
    rw c.push-self.ensures (ap (holding (pushed r c.args.addr c.args.src.now)) e)
