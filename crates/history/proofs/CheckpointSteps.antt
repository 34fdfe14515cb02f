-- Checkpoint: refused, or a step of `recovery`'s machine, done or cut.
use Prim.Native.Nat.{ℕ, ◌+◌, ◌≤◌, ◌<◌}
use native.Mathlib.Decide.{dec_le}
use native.Mathlib.Omega.{arith}
use mathlib.Core.Bool.{Bool, true, false, cond}
use mathlib.Core.List.{List, ◌++◌, append-nil, map}
use mathlib.Core.Path.{◌≡◌, refl, sym, ap, ◌∙◌, subst}
use lib.ListN.{length, take, drop}
use Rattle.layout.specs.Parts.{part, pointer_of, image_part}
use Rattle.layout.specs.declared.Form.TheVariants.{One}
use Rattle.recovery.specs.Group.{Group, groups_size}
use Rattle.recovery.specs.Machine.{Disk, standing_before, standing_in, number_before, Live, down, up, checkpoints, checkpoint_is_cut, after_checkpoint, without_redo}
use Rattle.recovery.proofs.Log.{checkpoint_stands, checkpoint_number}
use Rattle.redolog.specs.Log.{read_log}
use Rattle.redolog.specs.Stores.{apply}
use Rattle.redolog.proofs.StoreLaws.{length_apply}
use Rattle.redolog.proofs.Ended.{Groupless}
use Rattle.transaction.specs.View.{view_of}
use Rattle.image.specs.Slots.{slot_at}
use Rattle.image.specs.Content.{Content, content_of, transactions_in}
use Rattle.image.specs.Format.{encode_image, image_size}
use Rattle.image.proofs.Lists.{up_map}
use Rattle.image.proofs.RoundTrip.{Whole, Restored, image_restored}
use Rattle.store.specs.declared.State.{State}
use Rattle.store.specs.State.{image_of}
use Rattle.store.specs.Checkpoint as checkpoint-spec
use Rattle.store.specs.Checkpoint.{into_a, target_name, checkpoint_stores, checkpoint_plan, checkpoint_of}
use Rattle.store.specs.View.{live}
use Rattle.store.proofs.Fits.{fit}
use Rattle.store.proofs.Storing.{disk_number, stored_cut, stored_done}
use Rattle.store.proofs.Checkpointing.{checkpoint_length, kept_log, kept_pointer, kept_image, new_pointer, new_image}
use Rattle.store.proofs.Stepping.{same_or_other}
use Rattle.disk.specs.Layout.{log_from}
use Rattle.disk.specs.Open.{Loaded, image_named, load_of, OpenedDisk, opened_by, open_of}
use Rattle.disk.proofs.Loading.{load_image}
use Rattle.disk.proofs.Opened.{open_is, open_inv, open_alike}
use Rattle.history.specs.Calls.{checkpoint, stored, World, step_of}
use Rattle.history.proofs.OnDisk.{Start, opens, groups_from, OnDisk, same_opened}
use Rattle.history.proofs.Shows.{LiveOn, awake, rests, cut_rests, FollowsBy, refused_follows, checkpoint_refuses}

module _ {from : Start} (w : World) (d : Disk) (l : Live) (o : OnDisk from w.disk d) (v : LiveOn w d l)
    (form : d.form ≡ One) (a : ℕ) (z : disk_number w.state w.disk w.memory w.tail ≡ 0) where
  abbrev s : State
  s = w.state

  abbrev m : List ℕ
  m = w.memory

  abbrev t : List ℕ
  t = w.tail

  abbrev p : ℕ
  p = pointer_of w.disk

  abbrev left : List ℕ
  left = apply (take a (checkpoint_stores s w.disk m)) w.disk

  left_length : length left ≡ 33691
  left_length = length_apply (take a (checkpoint_stores s w.disk m)) w.disk ∙ o.long

  need : length (checkpoint_stores s w.disk m) ≡ image_size (image_of s) + 1
  need = checkpoint_length s w.disk m v.memory

  -- the log is as it was
  same_groups : (n : ℕ) → groups_from n left ≡ groups_from n w.disk
  same_groups n = ap (read_log n) (kept_log s w.disk m t a z)

  same_end : (gs : List Group) → Groupless (log_from (groups_size gs) w.disk) → Groupless (log_from (groups_size gs) left)
  same_end gs h = subst Groupless (ap (drop (groups_size gs)) (sym (kept_log s w.disk m t a z))) h

  -- ---- cut: the image in use is the old one

  module _ (h : a ≤ image_size (image_of s)) where
    shows_cut : OnDisk from left d
    shows_cut =
        same_opened w.disk left d d o left_length
        (open_alike left w.disk (kept_pointer s w.disk m t a z h) (kept_image s w.disk m t a z h (open_inv w.disk o.opened).low)) refl refl
        (same_groups (number_before (opens from) d) ∙ o.log) (same_end (standing_in d) o.ended)

    cut_follows : FollowsBy from (up d l) (checkpoint a) (step_of (checkpoint a) w)
    unfolding step_of checkpoint_of
    cut_follows =
        let e = stored_cut s w.disk m t (checkpoint_plan s w.disk m t) a z (omega (arith, need, h)) in
        subst (FollowsBy from (up d l) (checkpoint a)) (sym (ap stored e))
        (record {
          next = down d;
          step = checkpoint_is_cut d l;
          shows = (shows_cut, rests cut_rests);
        })

  -- ---- done: the image is the state's

  -- the pointer byte names an image
  named : (b : Bool) → (cond b 1 2 ≤ 2) × (1 ≤ cond b 1 2)
  named true = (omega arith, omega arith)
  named false = (omega arith, omega arith)

  sized : Whole (image_of s)
  sized j h = (v.sizes.each j h).undos.space

  views : transactions_in (image_of s) ≡ (live s m t).txs
  views = sym (up_map view_of (slot_at s.txs) s.count 0)

  module _ (h : image_size (image_of s) < a) where
    abbrev image : List ℕ
    image = encode_image (image_of s) m

    abbrev slot : ℕ
    slot = checkpoint-spec.target_at p

    abbrev rest : List ℕ
    rest = drop (length image) (part slot 8653 w.disk)

    pointer : pointer_of left ≡ target_name p
    pointer = new_pointer s w.disk m t a z h

    part_is : image_part (pointer_of left) left ≡ image ++ rest
    part_is = ap (λ (q : ℕ). image_part q left) pointer ∙ new_image s w.disk m t a z h

    restored : Restored (image_of s) m (image_part (pointer_of left) left)
    restored = subst (Restored (image_of s) m) (sym part_is) (image_restored (image_of s) sized (fit s t v.fits).image m rest v.memory)

    above : pointer_of left ≡ 0 → ⊥
    above e = absurd (omega (arith, e, pointer, (named (into_a p)).1))

    loads : load_of (pointer_of left) left ≡ image_named (pointer_of left) left
    loads = load_image (pointer_of left) left above

    loads_ok : (load_of (pointer_of left) left).decoded.ok ≡ true
    loads_ok = ap (λ (x : Loaded). x.decoded.ok) loads ∙ restored.ok

    opens_new : open_of left ≡ opened_by (image_named (pointer_of left) left) left
    opens_new =
        open_is left (subst (λ (q : ℕ). q ≤ 2) (sym pointer) (named (into_a p)).0) loads_ok
        ∙ ap (λ (x : Loaded). opened_by x left) loads

    -- what stands in the log stays as it was
    same_stands : standing_in (after_checkpoint d l) ≡ standing_in d
    same_stands = append-nil (standing_before (after_checkpoint d l)) ∙ checkpoint_stands d l form

    shows_done : OnDisk from left (after_checkpoint d l)
    shows_done =
        let content : content_of (open_of left).image ≡ content_of (image_of s) = ap (λ (x : OpenedDisk). content_of x.image) opens_new ∙ restored.content in
        record {
          long = left_length;
          opened = ap (λ (x : OpenedDisk). x.number) opens_new;
          txs = ap (λ (x : OpenedDisk). transactions_in x.image) opens_new
              ∙ restored.recovers
              ∙ ap (map without_redo) (views ∙ ap (λ (x : Live). x.txs) v.view);
          memory = ap (λ (x : OpenedDisk). x.memory) opens_new ∙ restored.memory ∙ ap (λ (x : Live). x.memory) v.view;
          csn = ap (λ (c : Content). c.ondisk) content ∙ ap (λ (x : Live). x.csn) v.view;
          last = ap (λ (c : Content). c.lastid) content ∙ ap (λ (x : Live). x.last_id) v.view;
          place = ap (λ (c : Content). c.logend) content ∙ v.end ∙ ap groups_size (sym (checkpoint_stands d l form));
          log = ap (λ (n : ℕ). groups_from n left) (checkpoint_number (opens from) d l form)
              ∙ same_groups (number_before (opens from) d)
              ∙ o.log
              ∙ sym same_stands;
          ended =
              subst (λ (gs : List Group). Groupless (log_from (groups_size gs) left)) (sym same_stands) (same_end (standing_in d) o.ended);
        }

    done_follows : FollowsBy from (up d l) (checkpoint a) (step_of (checkpoint a) w)
    unfolding step_of checkpoint_of
    done_follows =
        let e = stored_done s w.disk m t (checkpoint_plan s w.disk m t) a z (omega (arith, need, h)) in
        subst (FollowsBy from (up d l) (checkpoint a)) (sym (ap stored e))
        (record {
          next = up (after_checkpoint d l) l;
          step = checkpoints d l;
          shows = (
            shows_done,
            awake (record {
              memory = v.memory;
              tail = v.tail;
              fits = v.fits;
              sizes = v.sizes;
              view = v.view;
              end = v.end ∙ ap groups_size (sym same_stands);
              zeros = ap (drop s.logend) (kept_log s w.disk m t a z) ∙ v.zeros;
              neat = v.neat;
            }),
          );
        })

pub checkpoint_follows : {from : Start} (w : World) (d : Disk) (l : Live) → OnDisk from w.disk d → LiveOn w d l → d.form ≡ One → (a : ℕ)
    → FollowsBy from (up d l) (checkpoint a) (step_of (checkpoint a) w)
checkpoint_follows w d l o v form a =
    same_or_other (disk_number w.state w.disk w.memory w.tail) 0
    (λ z. elim (dec_le a (image_size (image_of w.state))) [ yes h ↦ cut_follows w d l o v form a z h | no h ↦ done_follows w d l o v form a z (omega (arith, h)) ])
    (λ h. refused_follows (up d l) w (checkpoint a) (o, awake v) (checkpoint_refuses w a h))
