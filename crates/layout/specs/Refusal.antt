-- The numbers that refuse a call (document 01, "Numbers in checking order"; 15 to 20 are of document 02).
use Rattle.std.specs.Prelude.{ℕ, Result, Ok, Err}
use Rattle.layout.specs.declared.refusal.Refusal.{Refusal}
use Rattle.layout.specs.declared.refusal.Refusal.TheVariants.{WrongLength, Unfit, BadPointer, BadImage, NoRoomToUndo, NotListed, Committing, BadRange, Held, TooManyWrites, TooManyTransactions, CounterAtEnd, LogFull, NotDurable, TooManyReads, TwoPages, BadPage, NoSavepoint, TooManySavepoints, BadList}

abbrev pub number_of : Refusal → ℕ
number_of WrongLength = 1
number_of Unfit = 2
number_of BadPointer = 3
number_of BadImage = 4
number_of NoRoomToUndo = 5
number_of NotListed = 6
number_of Committing = 7
number_of BadRange = 8
number_of Held = 9
number_of TooManyWrites = 10
number_of TooManyTransactions = 11
number_of CounterAtEnd = 12
number_of LogFull = 13
number_of NotDurable = 14
number_of TooManyReads = 15
number_of TwoPages = 16
number_of BadPage = 17
number_of NoSavepoint = 18
number_of TooManySavepoints = 19
number_of BadList = 20

-- the number by which a call is refused, 0 if it is done
abbrev pub refused_by : {A : Type 0} → Result A Refusal → ℕ
refused_by (Ok a) = 0
refused_by (Err r) = number_of r
