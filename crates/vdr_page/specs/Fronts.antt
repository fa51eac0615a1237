-- What stands before the rows of records (this project's profile): what the page is of, and the live saves.
use Rattle.std.specs.Prelude.{ℕ, List, [], ◌∷◌, ◌++◌, codes}
use Rattle.std.specs.List.{flat_map}
use Rattle.vdr_page.specs.Fields.{flag, number_or_null, row}
use Rattle.vdr_page.specs.Fields.Field.{Number, Text}
use Rattle.vdr_page.specs.Surveys.{step_of}
use Rattle.vdr_page.specs.declared.front.PageWords.{PageWords}
use Rattle.vdr_page.specs.declared.front.Save.{Save}
use Rattle.vdr_page.specs.declared.survey.Survey.{Survey}

-- What a page is asked for, as it was written.
pub record Words : Type 0 where
  pub medium : List ℕ
  pub from : List ℕ
  pub to : List ℕ

abbrev pub words_of : PageWords → Words
words_of words = record { medium = words.medium.now; from = words.from.now; to = words.to.now }

-- A live save.
pub record Saved : Type 0 where
  pub id : ℕ
  pub utc : ℕ  -- when it was made, in milliseconds since 1970
  pub first : ℕ  -- the place of its first record
  pub last : ℕ  -- the place of its last one
  pub label : List ℕ

abbrev pub save_of : Save → Saved
save_of save = record { id = save.id; utc = save.utc; first = save.first; last = save.last; label = save.label.items }

-- `["page",1,MEDIUM,FROM,TO,LOW,HIGH,STEP,RAW,SOUND,PICTURES,RECORDS]`
abbrev pub page_row : Words → Survey → List ℕ
page_row words s =
    row (codes "page")
    (Number 1 ∷ Text words.medium ∷ Text words.from ∷ Text words.to ∷ number_or_null s.low ∷ number_or_null s.high ∷ Number (step_of s) ∷ flag s.raw ∷ flag s.sound ∷ flag s.pictures ∷ Number s.records ∷ [])

-- `["save",ID,UTC,A,B,LABEL]`
abbrev pub save_row : Saved → List ℕ
save_row save = row (codes "save") (Number save.id ∷ Number save.utc ∷ Number save.first ∷ Number save.last ∷ Text save.label ∷ [])

abbrev pub front_rows : Words → Survey → List Saved → List ℕ
front_rows words s saves = page_row words s ++ flat_map save_row saves
