-- The parts of a disk (document 01, "Disk, memory, tail"): "Place 0 is the pointer byte (0 no image, 1 image A, 2 image B). A is at 1 to 8,653, B
-- at 8,654 to 17,306, the log at 17,307 to 33,690." And its form (document 02, A.9): "Form two has 50,077 bytes"; form one is document 01's.
use Rattle.std.specs.Prelude.{ℕ, Bool, cond, ◌||◌, List, get_or, take, drop, eqb}
use Rattle.layout.specs.{disk_len, image_a, image_b, image_len, log_start, log_len, names_a, disk_len2, area_one, area_two}
use Rattle.layout.specs.declared.Form.{Form}
use Rattle.layout.specs.declared.Form.TheVariants.{One, Two}

-- ---- the form

-- "A disk's length tells its form"; one that has neither length is given the first here, and is refused by 1
abbrev pub form_by : ℕ → Form
form_by n = cond (eqb n disk_len2) Two One

abbrev pub length_by : Form → ℕ
length_by One = disk_len
length_by Two = disk_len2

-- the lengths that number 1 lets pass: 33,691 alone. What else is to be known of it says `disk_ok_lem` (proofs/Forms.antt).
unfoldable pub disk_ok : ℕ → Bool
disk_ok n = eqb n disk_len

-- "the state keeps the area, 0 for form one"; in form two "its area, 1 or 2"
abbrev pub area_ok : Form → ℕ → Bool
area_ok One area = eqb area 0
area_ok Two area = eqb area 1 || eqb area 2

-- ---- the parts

-- n bytes from an offset on
abbrev pub part : ℕ → ℕ → List ℕ → List ℕ
part at n disk = take n (drop at disk)

abbrev pub pointer_of : List ℕ → ℕ
pointer_of disk = get_or disk 0 0

-- where the image stands that a pointer byte names
abbrev pub image_at : ℕ → ℕ
image_at pointer = cond (eqb pointer names_a) image_a image_b

abbrev pub image_part : ℕ → List ℕ → List ℕ
image_part pointer = part (image_at pointer) image_len

abbrev pub log_part : List ℕ → List ℕ
log_part = part log_start log_len

-- where the log of an area stands: 0 is form one's
abbrev pub log_at : ℕ → ℕ
log_at area = cond (eqb area 0) log_start (cond (eqb area 1) area_one area_two)
