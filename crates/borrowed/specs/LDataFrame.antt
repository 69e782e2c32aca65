-- `LDataFrame`: the application data beside what parsing the frame answered, over the definitions that the field record's functions promise, and over how L counts. Assumes nothing.
use Rattle.std.specs.Prelude.{ℕ, ◌+◌, ◌-◌, ◌≡◌, List, length, drop, Result, Ok, Err}
use Rattle.wire.specs.Told.{Told, refused, viewed, Check, judged}
use Rattle.wire.specs.Places.{located}
use Rattle.wire.specs.Layout.{get}
use Rattle.wire.specs.Parts.{shown}
use Rattle.wire.specs.Parts as Parts
use Rattle.wire.specs.declared.parts.View.{View}
use Rattle.pci.specs.Transport.{is_data}
use Rattle.ldata.specs.Count.{Count, start_of, crate_count, count_by}
use Rattle.ldata.specs.LData.{fields, length_in, tpci_in, data_byte}
use Rattle.ldata.specs.LData as LData
use Rattle.ldata.specs.declared.count.Counting.{Counting}
use Rattle.ldata.specs.declared.ldata.LDataFields.{LDataFields}
use Rattle.borrowed.specs.declared.ldata_frame.LDataFrame.{LDataFrame}
use Rattle.wire.specs.declared.refusals.Fault.{Fault}

-- the data of an L_Data frame: behind the APCI, or behind a control packet's TPCI, to the end that L says; none where it is refused
abbrev pub data_in_count : Count → List ℕ → List ℕ
data_in_count C s = shown s (judged (LData.byte_checks C s) (viewed (start_of (data_byte (tpci_in (get fields 0 s)))) (C.end_of (length_in (get fields 0 s)))))

-- A record borrows n bytes of data, which stand behind the start of a frame: that frame's checks are repeated, but for its least size, which only says that the start is there.
abbrev pub borrowed_checks : Count → LDataFields → ℕ → List Check
borrowed_checks C f n = drop 1 (LData.record_checks C f (start_of (is_data f.tpci) + n))

-- what is borrowed starts where the data does
abbrev pub borrowed_by01 : Count → LDataFields → List ℕ → Told
borrowed_by01 C f s = judged (borrowed_checks C f (length s)) (viewed 0 (C.end_of f.npdu_length - start_of (is_data f.tpci)))

-- and where: at L, whose offset is that of the frame
abbrev pub borrowed_where : Count → LDataFields → List ℕ → Told
borrowed_where C f s = located (borrowed_checks C f (length s)) LData.length_offsets (borrowed_by01 C f s)

abbrev pub BorrowedViewPromise : Counting → List ℕ → LDataFields → Result View Fault → Type 0
BorrowedViewPromise c s f r = Parts.told r ≡ borrowed_where (count_by c) f s

-- where the data stands in the bytes that a record borrows; of a refused one the refusal
abbrev pub view_in : Count → Result LDataFields Fault → List ℕ → Told
view_in C (Ok f) s = borrowed_where C f s
view_in C (Err e) s = refused 0 e

-- and the part there
abbrev pub data_of_in : Count → Result LDataFields Fault → List ℕ → List ℕ
data_of_in C a s = shown s (view_in C a s)

-- ---- what the functions promise, with the crate's count

abbrev pub data_in : List ℕ → List ℕ
data_in s = data_in_count crate_count s

abbrev pub DataInPromise : List ℕ → List ℕ → Type 0
DataInPromise s r = r ≡ data_in s

abbrev pub ParsePromise : List ℕ → LDataFrame → Type 0
ParsePromise s r = DataInPromise s r.«data».now × LData.ParsePromise s r.answer

abbrev pub view_of : Result LDataFields Fault → List ℕ → Told
view_of a s = view_in crate_count a s

abbrev pub DataViewPromise : List ℕ → Result LDataFields Fault → Result View Fault → Type 0
DataViewPromise s a r = Parts.told r ≡ view_of a s

abbrev pub data_of : Result LDataFields Fault → List ℕ → List ℕ
data_of a s = data_of_in crate_count a s

abbrev pub DataOfPromise : List ℕ → Result LDataFields Fault → List ℕ → Type 0
DataOfPromise s a r = r ≡ data_of a s

abbrev pub DataPromise : LDataFrame → List ℕ → Type 0
DataPromise f r = DataOfPromise f.«data».now f.answer r

-- ---- the same in the count that they are given

abbrev pub DataInCountPromise : Counting → List ℕ → List ℕ → Type 0
DataInCountPromise c s r = r ≡ data_in_count (count_by c) s

abbrev pub ParseInPromise : Counting → List ℕ → LDataFrame → Type 0
ParseInPromise c s r = DataInCountPromise c s r.«data».now × LData.ParseInPromise c s r.answer

abbrev pub DataViewInPromise : Counting → List ℕ → Result LDataFields Fault → Result View Fault → Type 0
DataViewInPromise c s a r = Parts.told r ≡ view_in (count_by c) a s

abbrev pub DataOfInPromise : Counting → List ℕ → Result LDataFields Fault → List ℕ → Type 0
DataOfInPromise c s a r = r ≡ data_of_in (count_by c) a s

abbrev pub FrameDataInPromise : Counting → LDataFrame → List ℕ → Type 0
FrameDataInPromise c f r = DataOfInPromise c f.«data».now f.answer r
