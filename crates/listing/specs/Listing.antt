-- Program disklist: "reads one disk on standard input, runs restart on a copy and prints" what it found.
use Rattle.std.specs.Prelude.{ℕ, ◌-◌, ◌≤◌, List, [], ◌++◌, ◌≡◌, length, take, replicate, Option}
use Rattle.layout.specs.{memory_len, tail_len, log_len}
use Rattle.layout.specs.Parts.{pointer_of}
use Rattle.redolog.specs.declared.stop.Stop.{Stop}
use Rattle.store.specs.Answer.{Word, done, cut, refused, Told}
use Rattle.store.specs.Stored.{DiskOutcome}
use Rattle.disk.specs.Restart.{restart_of, stopped_of}
use Rattle.listing.specs.Lines.{found_text, stop_line, refused_text}

-- the log has 16,384 bytes, so no restart needs more stores
abbrev pub restart_whole : List ℕ → DiskOutcome
restart_whole disk = restart_of disk (replicate memory_len 0) (replicate tail_len 0) log_len

-- and why the log ended, as it tells it
abbrev pub stopped_whole : List ℕ → Option Stop
stopped_whole disk = stopped_of disk (replicate memory_len 0) (replicate tail_len 0) log_len

-- it is never cut: `uncut` (proofs/Endings.antt)
abbrev pub text_of : ℕ → Told → Option Stop → Word → List ℕ
text_of pointer r stop done = found_text pointer r.state.logend r.state.ondisk.0 r.state.lastid.0 r.value ++ stop_line stop
text_of pointer r stop cut = []
text_of pointer r stop (refused n) = refused_text n

-- a wrong length is restart's number 1
unfoldable pub listing_of : List ℕ → List ℕ
listing_of disk = text_of (pointer_of disk) (restart_whole disk).result (stopped_whole disk) (restart_whole disk).result.says

-- what is lent for a text: at most 68 bytes are used
abbrev pub text_len : ℕ
text_len = 80

-- a text at the front, zeros after it
abbrev pub padded : List ℕ → List ℕ
padded text = text ++ replicate (text_len - length text) 0

-- the text stands at the front of out and r is its length. `within` and `part` follow from the others; they are stated so that the proof that
-- Rattle makes of `&out[..r]` finds them.
pub record Printed (text : List ℕ) (r : ℕ) (out : List ℕ) : Type 0 where
  pub size : r ≡ length text
  pub bytes : out ≡ padded text
  pub within : r ≤ length out
  pub part : r ≡ length (take r out)

-- whatever the whole input is, if the first `count` bytes of the buffer are it, or as much of it as the buffer holds: its text
abbrev pub PrintedWhole : List ℕ → ℕ → ℕ → List ℕ → Type 0
PrintedWhole buffer count r out = (whole : List ℕ) → take count buffer ≡ take (length buffer) whole → Printed (listing_of whole) r out
