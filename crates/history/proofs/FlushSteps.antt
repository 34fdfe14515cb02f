-- Flush: refused, or a step of `recovery`'s machine, done or cut.
use Prim.Native.Nat.{ℕ, ◌+◌, ◌-◌, ◌≤◌, ◌<◌}
use native.Mathlib.Decide.{dec_le}
use native.Mathlib.Omega.{arith}
use mathlib.Core.Bool.{true}
use mathlib.Core.List.{List, ◌++◌, append_assoc}
use mathlib.Core.Path.{◌≡◌, refl, sym, ap, ap₂, ◌∙◌, subst}
use lib.ListN.{length, take, drop, replicate, length-take, length-append, take-append-drop}
use lib.Seq.{sets, sets-eq, length-take-le, take_all, take_at, drop_at, drop-drop}
use Rattle.recovery.specs.Group.{Group, groups_size, last_csn, fitting}
use Rattle.recovery.specs.Machine.{Disk, standing_in, number_before, Live, down, up, flushes, flush_is_cut, storing, after_flush}
use Rattle.recovery.proofs.Groups.{groups_size_append, fitting_all}
use Rattle.recovery.proofs.Log.{stored_before, stored_stands, stored_number}
use Rattle.redolog.specs.Log.{read_log, encode_log, well_formed_log}
use Rattle.redolog.specs.Stores.{Store, apply, copies, shifted}
use Rattle.redolog.proofs.Parts.{encode_append, formed_first}
use Rattle.redolog.proofs.PartLaws.{copies_moved, part_copied, within_copies}
use Rattle.redolog.proofs.RoundTrip.{length_log, log_same}
use Rattle.redolog.proofs.Soundness.{log_formed}
use Rattle.redolog.proofs.StoreLaws.{drop_zeros, length_apply, length_shifted}
use Rattle.redolog.proofs.Torn.{log_cut}
use Rattle.redolog.proofs.Ended.{Groupless, cut_ended}
use Rattle.store.specs.declared.State.{State}
use Rattle.store.specs.Flush.{first_groups, first_size, flushed_state, flushed_tail, flush_stores, flush_plan, flush_of}
use Rattle.store.specs.View.{live}
use Rattle.store.proofs.Fits.{Fit, fit, unfit_no}
use Rattle.store.proofs.Storing.{disk_number, stored_cut, stored_done}
use Rattle.store.proofs.Flushing.{flush_length, flush_room, flush_tail, flush_keeps}
use Rattle.store.proofs.Stepping.{same_or_other}
use Rattle.disk.specs.Layout.{log_from}
use Rattle.disk.proofs.Opened.{log_length, OpenAlike, log_stores_alike}
use Rattle.history.specs.Calls.{flush, stored, World, step_of}
use Rattle.history.proofs.Padded.{padded, padded_front, padded_shifted}
use Rattle.history.proofs.OnDisk.{Start, opens, whole_log, groups_from, OnDisk, same_opened}
use Rattle.history.proofs.Shows.{Neat, LiveOn, awake, rests, cut_rests, FollowsBy, refused_follows, flush_refuses}

module _ {from : Start} (w : World) (d : Disk) (l : Live) (o : OnDisk from w.disk d) (v : LiveOn w d l)
    (number : last_csn (number_before (opens from) d) (standing_in d) ≡ w.state.ondisk.0)
    (k : ℕ) where
  abbrev s : State
  s = w.state

  abbrev t : List ℕ
  t = w.tail

  abbrev groups : List Group
  groups = read_log s.ondisk.0 t

  abbrev firsts : List Group
  firsts = first_groups s t k

  abbrev size : ℕ
  size = first_size s t k

  -- the log before
  abbrev log : List ℕ
  log = whole_log w.disk

  fits : Fit s t
  fits = fit s t v.fits

  tail_same : groups ≡ l.tail
  tail_same = ap (λ (x : Live). x.tail) v.view

  -- ---- the bytes

  parted : encode_log groups ≡ encode_log firsts ++ encode_log (drop k groups)
  parted = ap encode_log (sym (take-append-drop k groups)) ∙ encode_append firsts (drop k groups)

  size_within : size ≤ length (encode_log groups)
  size_within = omega (arith, ap length parted, length-append (encode_log firsts) (encode_log (drop k groups)), length_log firsts)

  tail_short : length (encode_log groups) ≤ 16384
  tail_short = omega (arith, ap length v.neat, length-append (encode_log groups) (replicate (16384 - length (encode_log groups)) 0), v.tail)

  bytes : take size t ≡ encode_log firsts
  bytes =
      ap (take size) v.neat
      ∙ padded_front (encode_log groups) size size_within
      ∙ ap (take size) parted
      ∙ take_at (encode_log firsts) (encode_log (drop k groups)) size (length_log firsts)

  neat_after : Neat (last_csn s.ondisk.0 firsts) (flushed_tail s t k)
  neat_after =
      ap (shifted size) v.neat
      ∙ padded_shifted (encode_log groups) size tail_short size_within
      ∙ ap padded
      (ap (drop size) parted ∙ drop_at (encode_log firsts) (encode_log (drop k groups)) size (length_log firsts) ∙ ap encode_log (sym (flush_tail s t k)))

  -- ---- what n stores leave

  module _ (n : ℕ) where
    abbrev left : List ℕ
    left = apply (take n (flush_stores s t k)) w.disk

    abbrev new : List ℕ
    new = take n (encode_log firsts)

    room : s.logend + size ≤ 16384
    room = omega (arith, flush_room s t k fits)

    new_length : length new ≤ size
    new_length = omega (arith, length-take n (encode_log firsts), length_log firsts)

    left_is : whole_log left ≡ sets log s.logend new
    left_is = part_copied 17307 16384 n s.logend (take size t) w.disk ∙ ap (λ (x : List ℕ). sets log s.logend (take n x)) bytes

    left_length : length left ≡ 33691
    left_length = length_apply (take n (flush_stores s t k)) w.disk ∙ o.long

    -- in three parts
    parts : whole_log left ≡ take s.logend log ++ (new ++ drop (s.logend + length new) log)
    parts =
        let l = log_length w.disk o.long in
        left_is ∙ sets-eq new log s.logend (omega (arith, l, new_length, room))
        ∙ append_assoc (take s.logend log) new (drop (s.logend + length new) log)

    front_length : length (take s.logend log) ≡ s.logend
    front_length = let l = log_length w.disk o.long in length-take-le s.logend log (omega (arith, l, room))

    -- what stands from the log's old end on
    behind : log_from s.logend left ≡ new ++ replicate (16384 - s.logend - length new) 0
    behind =
        ap (drop s.logend) parts
        ∙ drop_at (take s.logend log) (new ++ drop (s.logend + length new) log) s.logend front_length
        ∙ ap (λ (x : List ℕ). new ++ x)
        (sym (drop-drop (length new) s.logend log) ∙ ap (drop (length new)) v.zeros ∙ drop_zeros (length new) (16384 - s.logend))

    -- the first groups are well formed
    firsts_formed : well_formed_log s.ondisk.0 firsts ≡ true
    firsts_formed = formed_first k s.ondisk.0 groups (log_formed s.ondisk.0 groups t refl)

    -- the groups that were stored whole are read after those that stood there
    log_left : groups_from (number_before (opens from) d) left ≡ standing_in d ++ fitting n firsts
    log_left =
        let gs = standing_in d in
        let same : take (groups_size gs) (whole_log left) ≡ take (groups_size gs) log =
        ap (λ (j : ℕ). take j (whole_log left)) (sym v.end)
        ∙ ap (take s.logend) parts
        ∙ take_at (take s.logend log) (new ++ drop (s.logend + length new) log) s.logend front_length
        ∙ ap (λ (j : ℕ). take j log) v.end in
        log_same (number_before (opens from) d) gs log (whole_log left) o.log same
        ∙ ap (λ (hs : List Group). gs ++ hs)
        (ap₂ read_log number (ap (λ (j : ℕ). log_from j left) (sym v.end) ∙ behind)
        ∙ log_cut s.ondisk.0 firsts n (16384 - s.logend - length new) firsts_formed)

    -- and no whole group stands behind them
    ended_left : Groupless (log_from (s.logend + groups_size (fitting n firsts)) left)
    ended_left =
        let j = groups_size (fitting n firsts) in
        subst Groupless (sym (sym (drop-drop j s.logend (whole_log left)) ∙ ap (drop j) behind))
        (cut_ended s.ondisk.0 firsts n (16384 - s.logend - length new) firsts_formed)

    left_alike : OpenAlike left w.disk
    left_alike =
        subst (λ (ss : List Store). OpenAlike (apply (take n ss) w.disk) w.disk) (sym (copies_moved 17307 s.logend (take size t)))
        (log_stores_alike n (copies s.logend (take size t)) w.disk
        (within_copies 16384 s.logend (take size t) (omega (arith, length-take size t, room))))

    ends : (gs : List Group) → fitting n firsts ≡ gs → s.logend + groups_size (fitting n firsts) ≡ groups_size (standing_in (storing gs d))
    ends gs e = omega (arith, v.end, ap groups_size e, ap groups_size (stored_stands gs d) ∙ groups_size_append (standing_in d) gs)

    shows_left : (gs : List Group) → fitting n firsts ≡ gs → OnDisk from left (storing gs d)
    shows_left gs e =
        same_opened w.disk left d (storing gs d) o left_length left_alike refl (stored_before gs d)
        (ap (λ (m : ℕ). groups_from m left) (stored_number (opens from) gs d)
        ∙ log_left
        ∙ ap (λ (hs : List Group). standing_in d ++ hs) e
        ∙ sym (stored_stands gs d))
        (subst (λ (j : ℕ). Groupless (log_from j left)) (ends gs e) ended_left)

  -- ---- the call

  firsts_same : firsts ≡ take k l.tail
  firsts_same = ap (take k) tail_same

  cut_follows : (a : ℕ) → disk_number s w.disk w.memory t ≡ 0 → a < size → FollowsBy from (up d l) (flush k a) (step_of (flush k a) w)
  unfolding step_of flush_of
  cut_follows a z h =
      let e = stored_cut s w.disk w.memory t (flush_plan s w.memory t k) a z (omega (arith, flush_length s t k, h)) in
      let few : a < groups_size (take k l.tail) = omega (arith, h, ap groups_size firsts_same) in
      subst (FollowsBy from (up d l) (flush k a)) (sym (ap stored e))
      (record {
        next = down (storing (fitting a (take k l.tail)) d);
        step = flush_is_cut d l k a few;
        shows = (
          shows_left a (fitting a (take k l.tail)) (ap (fitting a) firsts_same),
          rests cut_rests,
        );
      })

  done_follows : (a : ℕ) → disk_number s w.disk w.memory t ≡ 0 → size ≤ a → FollowsBy from (up d l) (flush k a) (step_of (flush k a) w)
  unfolding step_of flush_of
  done_follows a z h =
      let e = stored_done s w.disk w.memory t (flush_plan s w.memory t k) a z (omega (arith, flush_length s t k, h)) in
      let gs = take k l.tail in
      let stored-firsts : fitting a firsts ≡ gs = fitting_all a firsts h ∙ firsts_same in
      let enough : groups_size gs ≤ a = omega (arith, h, ap groups_size firsts_same) in
      let whole : new a ≡ encode_log firsts = take_all a (encode_log firsts) (omega (arith, length_log firsts, h)) in
      let n : length (new a) ≡ size = ap length whole ∙ length_log firsts in
      let rest : 16384 - s.logend - length (new a) ≡ 16384 - (s.logend + size) = omega (arith, n) in
      let zeros : log_from (s.logend + size) (left a) ≡ replicate (16384 - (s.logend + size)) 0 =
      sym (drop-drop size s.logend (whole_log (left a)))
      ∙ ap (drop size) (behind a)
      ∙ drop_at (new a) (replicate (16384 - s.logend - length (new a)) 0) size n
      ∙ ap (λ (j : ℕ). replicate j 0) rest in
      subst (FollowsBy from (up d l) (flush k a)) (sym (ap stored e))
      (record {
        next = up (storing gs d) (after_flush k l);
        step = flushes d l k a enough;
        shows = (
          shows_left a gs stored-firsts,
          awake (record {
            memory = v.memory;
            tail = length_shifted size t ∙ v.tail;
            fits = unfit_no (flushed_state s t k) (flushed_tail s t k) (flush_keeps s t k fits);
            sizes = record { slots = v.sizes.slots; each = v.sizes.each };
            view =
                ap (λ (hs : List Group). record {
                  txs = (live s w.memory t).txs;
                  memory = w.memory;
                  tail = hs;
                  csn = last_csn
                      s.ondisk.0 firsts;
                  last_id = s.lastid.0;
                }) (flush_tail s t k)
                ∙ ap (after_flush k) v.view;
            end = omega (arith, ends a gs stored-firsts, ap groups_size stored-firsts, ap groups_size firsts_same);
            zeros = zeros;
            neat = neat_after;
          }),
        );
      })

  pub flush_follows : (a : ℕ) → FollowsBy from (up d l) (flush k a) (step_of (flush k a) w)
  flush_follows a =
      same_or_other (disk_number s w.disk w.memory t) 0
      (λ z. elim (dec_le size a) [ yes h ↦ done_follows a z h | no h ↦ cut_follows a z (omega (arith, h)) ])
      (λ h. refused_follows (up d l) w (flush k a) (o, awake v) (flush_refuses w k a h))
