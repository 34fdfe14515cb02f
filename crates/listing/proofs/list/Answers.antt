use Rattle.std.proofs.Common.{ℕ, ◌≤◌, ◌≡◌, List, Ok, Err, arith, rules, sym, ap, ◌∙◌}
use lib.ListN.{replicate}
use Rattle.store.specs.declared.Failure.TheVariants.{Cut, Refused}
use Rattle.store.specs.Answer.{Told}
use Rattle.disk.specs.declared.call.Restarted.{Restarted}
use Rattle.disk.specs.declared.call.Recovery.{Recovery}
use Rattle.disk.specs.Restart.{undone_by, of_restarted}
use Rattle.text.proofs.Putting.{put_then}
use Rattle.listing.specs.Lines.{refused_text}
use Rattle.listing.specs.Listing.{restart_whole}
use Rattle.listing.proofs.Putting.{lines_short, found_short, text_short, refused_short, put_front}
use Rattle.listing.proofs.Endings.{few_undone, listing_refused, listing_done, never_cut, printed}
use Rattle.listing.proofs.list.Goals as goal

-- a restart that was done undid few
few : (disk : List ℕ) (r : Restarted) (x : Recovery) → of_restarted r ≡ (restart_whole disk).result → r.result ≡ Ok x → x.undone ≤ 4096
few disk r x e d =
    let u : x.undone ≡ (restart_whole disk).result.value = sym (ap undone_by d) ∙ ap (λ (t : Told). t.value) e in
    omega (arith, few_undone disk)

pub put_found-at-requires : goal.put_found-at-requires
put_found-at-requires c =
    let x = c.restart-found in
    (c.fill_zero.auto.b ∙ c.told-out, few c.args.disk.now x.result c.in-Ok.recovery x.ensures.result_value c.in-Ok.is)

pub put_stop-requires : goal.put_stop-requires
put_stop-requires c =
    let x = c.restart-found in
    let r = x.result in
    let s = lines_short c.pointer_of-pointer.result r.state.logend r.state.ondisk.0 r.state.lastid.0 c.in-Ok.recovery.undone (search rules) (search rules)
    (search rules) (search rules) (few c.args.disk.now r c.in-Ok.recovery x.ensures.result_value c.in-Ok.is) in
    omega (arith, c.fill_zero.auto.b, c.told-out, c.put_found-at.auto.out, c.put_found-at.ensures.ends, found_short s)

pub returns-in-Ok-clause-printed : goal.returns-in-Ok-clause-printed
returns-in-Ok-clause-printed c =
    let x = c.restart-found in
    let r = x.result in
    let s = lines_short c.pointer_of-pointer.result r.state.logend r.state.ondisk.0 r.state.lastid.0 c.in-Ok.recovery.undone (search rules) (search rules)
    (search rules) (search rules) (few c.args.disk.now r c.in-Ok.recovery x.ensures.result_value c.in-Ok.is) in
    let e = listing_done c.args.disk.now r x.ensures.result_value x.ensures.stop_value c.pointer_of-pointer.result c.pointer_of-pointer.ensures
    c.in-Ok.recovery c.in-Ok.is in
    printed (sym e)
    (put_front (c.fill_zero.ensures ∙ ap (λ (k : ℕ). replicate k 0) c.told-out) (text_short s c.in-Ok.recovery.stop)
    (put_then c.put_found-at.ensures c.put_stop.ensures))

-- ---- refused

pub put_line-requires : goal.put_line-requires
unfolding refused_text
put_line-requires c = omega (arith, c.fill_zero.auto.b, c.told-out, refused_short c.number.result (search rules))

pub returns-in-Err-Refused-clause-printed : goal.returns-in-Err-Refused-clause-printed
unfolding refused_text
returns-in-Err-Refused-clause-printed c =
    let x = c.restart-found in
    let w = c.in-Err-Refused in
    let f : w.field-0 ≡ Refused w.refusal = rw w.is at w.field-0-is in
    let e = listing_refused c.args.disk.now x.result x.ensures.result_value x.ensures.stop_value w.refusal (w.is ∙ ap Err f) in
    printed (sym (e ∙ ap refused_text (sym c.number.ensures)))
    (put_front (c.fill_zero.ensures ∙ ap (λ (k : ℕ). replicate k 0) c.told-out) (refused_short c.number.result (search rules)) c.put_line.ensures)

-- stores for the whole log are enough
pub unreachable-requires : goal.unreachable-requires
unreachable-requires c =
    let x = c.restart-found in
    let w = c.in-Err-Cut in
    let f : w.field-0 ≡ Cut = rw w.is at w.field-0-is in
    never_cut c.args.disk.now x.result x.ensures.result_value x.ensures.stop_value (w.is ∙ ap Err f)
