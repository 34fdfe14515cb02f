-- Document 01's disks M1, M3 and M4 after so many of their groups, and pages of these and of disks with records over two pages, as the definitions tell
-- it.
use Rattle.std.specs.Prelude.{ℕ, List, [], ◌∷◌, ◌++◌, map, ◌≡◌, get_or, take, drop, replicate}
use Rattle.layout.specs.{memory_len, page_len}
use Rattle.inspect.specs.Groups.{GroupsTold, GroupsLeft, first_groups_of}
use Rattle.inspect.specs.Page.{PageLeft, page_of}
use Rattle.store.specs.Answer.{Word, done, refused}

-- a pointer byte, image A, and the log; B is zeros
abbrev pub disk_bytes : ℕ → List ℕ → List ℕ → List ℕ
disk_bytes pointer image log = pointer ∷ (image ++ (replicate 8653 0 ++ log))

-- image A of a disk: log end and number on disk 0, one number and one id given, one transaction; the byte at 10 is 5, its old byte 0
abbrev image_of : ℕ → ℕ → ℕ → List ℕ
image_of assigned status csn =
    (0 ∷ 0 ∷ 0 ∷ 0 ∷ 0 ∷ 0 ∷ 0 ∷ 0 ∷ 0 ∷ assigned ∷ 0 ∷ 1 ∷ 1 ∷ [])
    ++ ((replicate 10 0 ++ (5 ∷ replicate 4085 0)) ++ ((0 ∷ 1 ∷ status ∷ 0 ∷ 0 ∷ 0 ∷ csn ∷ 1 ∷ 0 ∷ 10 ∷ 1 ∷ 0 ∷ []) ++ replicate 4532 0))

-- "id 1 writes 41 42 (hexadecimal) at 10, precommits, flush 1"; without its last byte; and with a pointer byte of 3
abbrev m1 : List ℕ
m1 = 0x01 ∷ 0x00 ∷ 0x01 ∷ 0x00 ∷ 0x0A ∷ 0x02 ∷ 0x41 ∷ 0x42 ∷ 0x01 ∷ 0x02 ∷ 0x00 ∷ 0x01 ∷ 0x00 ∷ 0x00 ∷ 0x00 ∷ 0x01 ∷ []

abbrev pub disk_m1 : ℕ → ℕ → List ℕ
disk_m1 pointer last = disk_bytes pointer (replicate 8653 0) (m1 ++ (last ∷ replicate 16367 0))

-- "Id 1 writes 5 over 0 at 10, checkpoint, abort; id 2 writes 7 there, precommit, flush 2"
abbrev pub disk_m3 : List ℕ
disk_m3 = disk_bytes 1 (image_of 0 1 0) ((3 ∷ 0 ∷ 1 ∷ 3 ∷ 1 ∷ 0 ∷ 2 ∷ 0 ∷ 10 ∷ 1 ∷ 7 ∷ 1 ∷ 2 ∷ 0 ∷ 2 ∷ 0 ∷ 0 ∷ 0 ∷ 1 ∷ 2 ∷ []) ++ replicate 16364 0)

-- "Id 1 writes 5 at 10, precommit, checkpoint, no flush": restart's step 4 undoes it
abbrev disk_m4 : List ℕ
disk_m4 = disk_bytes 1 (image_of 1 2 1) (replicate 16384 0)

-- what is told, and the byte of memory at 10
pub record Shown : Type 0 where
  pub told : GroupsTold
  pub byte : ℕ

pub record Row : Type 0 where
  pub disk : List ℕ
  pub groups : ℕ
  pub shown : Shown

abbrev row : List ℕ → ℕ → Word → ℕ → ℕ → ℕ → Row
row disk groups says end csn byte =
    record { disk = disk; groups = groups; shown = record { told = record { says = says; end = end; csn = csn }; byte = byte } }

abbrev pub rows : List Row
rows =
    row (disk_m1 0 2) 0 done 0 0 0
    ∷ row (disk_m1 0 2) 1 done 17 1 0x41
    ∷ row (disk_m1 0 2) 9 done 17 1 0x41
    ∷ row (disk_m1 0 0) 1 done 0 0 0
    ∷ row (disk_m1 3 2) 1 (refused 3) 0 0 0
    ∷ row disk_m3 0 done 0 0 5
    ∷ row disk_m3 1 done 4 0 0
    ∷ row disk_m3 2 done 20 1 7
    ∷ row disk_m4 9 done 0 0 5
    ∷ []

abbrev shown_by : GroupsLeft → Shown
shown_by x = record { told = x.result; byte = get_or x.memory 10 0 }

-- of a memory that holds something else before
abbrev pub shown_of : Row → Shown
shown_of r = shown_by (first_groups_of r.disk (replicate memory_len 165) r.groups)

abbrev pub Worked : Type 0
Worked = map shown_of rows ≡ map (λ r. r.shown) rows

-- ---- pages

-- older disks may have records over two pages: a commit group of an id that writes 1, 2, 3 from 255 on
abbrev crossing_group : ℕ → List ℕ
crossing_group id = 0x01 ∷ 0 ∷ id ∷ 0x00 ∷ 0xFF ∷ 0x03 ∷ 1 ∷ 2 ∷ 3 ∷ 0x01 ∷ 0x02 ∷ 0 ∷ id ∷ 0 ∷ 0 ∷ 0 ∷ 1 ∷ 0x02 ∷ []

-- an image of this log end (its two bytes) with id 1 running, whose old bytes 5, 6, 7 go from 254 on; memory is zeros
abbrev crossing_image : ℕ → ℕ → List ℕ
crossing_image high low =
    (high ∷ low ∷ (replicate 9 0 ++ (1 ∷ 1 ∷ [])))
    ++ (replicate 4096 0 ++ ((0 ∷ 1 ∷ 1 ∷ 0 ∷ 0 ∷ 0 ∷ 0 ∷ 1 ∷ 0x00 ∷ 0xFE ∷ 0x03 ∷ 5 ∷ 6 ∷ 7 ∷ []) ++ replicate 4530 0))

-- such a redo record in the log; such an undo record, undone by step 4; the same undone by an abort in the log, then the redo record of another
abbrev crossing_redo : List ℕ
crossing_redo = disk_bytes 0 (replicate 8653 0) (crossing_group 1 ++ replicate 16366 0)

abbrev crossing_undo : List ℕ
crossing_undo = disk_bytes 1 (crossing_image 0 0) (replicate 16384 0)

abbrev crossing_both : List ℕ
crossing_both = disk_bytes 1 (crossing_image 0 0) ((3 ∷ 0 ∷ 1 ∷ 3 ∷ crossing_group 2) ++ replicate 16362 0)

-- a log end of 16,384 leaves no room for the abort record; 16,385 breaks an image rule
abbrev no_room : List ℕ
no_room = disk_bytes 1 (crossing_image 0x40 0x00) (replicate 16384 0)

abbrev bad_image : List ℕ
bad_image = disk_bytes 1 (crossing_image 0x40 0x01) (replicate 16384 0)

-- the word, and three bytes of the page from a place on
pub record PageShown : Type 0 where
  pub says : Word
  pub bytes : List ℕ

pub record PageRow : Type 0 where
  pub disk : List ℕ
  pub page : ℕ
  pub place : ℕ
  pub shown : PageShown

abbrev page_row : List ℕ → ℕ → ℕ → Word → ℕ → ℕ → ℕ → PageRow
page_row disk page place says x y z =
    record { disk = disk; page = page; place = place; shown = record { says = says; bytes = x ∷ y ∷ z ∷ [] } }

abbrev pub page_rows : List PageRow
page_rows =
    page_row (disk_m1 0 2) 0 10 done 0x41 0x42 0
    ∷ page_row (disk_m1 0 2) 15 253 done 0 0 0
    -- 1 comes before 17, and 17 before 3; both leave the buffer
    ∷ page_row [] 16 0 (refused 1) 165 165 165
    ∷ page_row (disk_m1 3 2) 16 0 (refused 17) 165 165 165
    -- restart's numbers zero it
    ∷ page_row (disk_m1 3 2) 15 0 (refused 3) 0 0 0
    ∷ page_row bad_image 0 253 (refused 4) 0 0 0
    ∷ page_row no_room 0 253 (refused 5) 0 0 0
    -- after step 4, where the first groups leave 5
    ∷ page_row disk_m4 0 10 done 0 0 0
    -- such a record falls into both its pages
    ∷ page_row crossing_redo 0 253 done 0 0 1
    ∷ page_row crossing_redo 1 0 done 2 3 0
    ∷ page_row crossing_undo 0 253 done 0 5 6
    ∷ page_row crossing_undo 1 0 done 7 0 0
    ∷ page_row crossing_both 0 253 done 0 5 1
    ∷ page_row crossing_both 1 0 done 2 3 0
    ∷ []

abbrev page_shown_by : ℕ → PageLeft → PageShown
page_shown_by place x = record { says = x.says; bytes = take 3 (drop place x.buffer) }

-- in a buffer that holds something else before
abbrev pub page_shown_of : PageRow → PageShown
page_shown_of r = page_shown_by r.place (page_of r.disk (replicate page_len 165) r.page)

abbrev pub PagesWorked : Type 0
PagesWorked = map page_shown_of page_rows ≡ map (λ r. r.shown) page_rows
