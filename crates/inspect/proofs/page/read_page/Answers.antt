use Rattle.std.proofs.Common.{ℕ, List, ◌≡◌, length, sym, ap, ◌∙◌}
use lib.ListN.{replicate}
use borrow.Author.Tests.{eqb-false}
use Rattle.layout.specs.Refusal.{number_of}
use Rattle.store.specs.Answer.{Word, refused}
use Rattle.store.proofs.Checks.{refused_some}
use Rattle.disk.specs.Examine.{Examined}
use Rattle.inspect.specs.Page.{PageLeft, page_in, page_of}
use Rattle.inspect.proofs.Paging.{page_no_disk, page_no_buffer, page_above, page_refused, page_done, page_lent}
use Rattle.inspect.proofs.page.read_page.Goals as goal

abbrev says_in : PageLeft → Word
says_in x = x.says

abbrev buffer_in : PageLeft → List ℕ
buffer_in x = x.buffer

pub returns-in_default : goal.returns-in_default
returns-in_default c =
    let a = c.args in
    let e = page_no_disk a.disk.now a.buffer.now a.page c.in_default.ensures.cases in
    record { result_value = sym (ap says_in e); buffer_after = sym (ap buffer_in e) }

pub returns-then-buffer-ne-PAGE_LEN : goal.returns-then-buffer-ne-PAGE_LEN
returns-then-buffer-ne-PAGE_LEN c =
    let a = c.args in
    let e = page_no_buffer a.disk.now a.buffer.now a.page c.if-buffer-ne-PAGE_LEN.true in
    record { result_value = sym (ap says_in e); buffer_after = sym (ap buffer_in e) }

pub returns-then-page-ge-PAGES : goal.returns-then-page-ge-PAGES
returns-then-page-ge-PAGES c =
    let a = c.args in
    let e = page_above a.disk.now a.buffer.now a.page c.in-Some.ensures.cases.long c.if-buffer-ne-PAGE_LEN.false c.if-page-ge-PAGES.true in
    record { result_value = sym (ap says_in e); buffer_after = sym (ap buffer_in e) }

-- ---- once the disk was looked at, as an array

at_disk : (disk array buffer : List ℕ) (page : ℕ) → array ≡ disk → {x : PageLeft} → page_of array buffer page ≡ x → x ≡ page_of disk buffer page
at_disk disk array buffer page same e = sym e ∙ ap (λ (y : List ℕ). page_of y buffer page) same

pub returns-in-Err : goal.returns-in-Err
returns-in-Err c =
    let a = c.args in
    let d = c.in-Some.ensures.cases in
    let r = c.in-Err.refusal in
    let n = ap (λ (x : Examined). x.number) c.in-Err.ensures.judged_as.found in
    let e = at_disk a.disk.now c.in-Some.disk.now a.buffer.now a.page d.same
    (page_refused c.in-Some.disk.now a.buffer.now a.page (ap length d.same ∙ d.long) c.if-buffer-ne-PAGE_LEN.false c.if-page-ge-PAGES.false
    (λ z. eqb-false (number_of r) 0 (refused_some r) (n ∙ z))) in
    record {
      result_value = ap refused n ∙ ap says_in e;
      buffer_after = c.fill_zero.ensures ∙ ap (λ (k : ℕ). replicate k 0) c.if-buffer-ne-PAGE_LEN.false ∙ ap buffer_in e;
    }

pub returns : goal.returns
returns c =
    let a = c.args in
    let d = c.in-Some.ensures.cases in
    let n = ap (λ (x : Examined). x.number) c.in_default-judge.ensures.judged_as.found in
    let e = at_disk a.disk.now c.in-Some.disk.now a.buffer.now a.page d.same
    (page_done c.in-Some.disk.now a.buffer.now a.page (ap length d.same ∙ d.long) c.if-buffer-ne-PAGE_LEN.false c.if-page-ge-PAGES.false (sym n)) in
    record {
      result_value = ap says_in e;
      buffer_after = c.copy_from_slice.ensures.after ∙ page_lent a.page c.judge.new.memory ∙ ap (page_in a.page) c.judge.ensures.memory_after ∙ ap buffer_in e;
    }
