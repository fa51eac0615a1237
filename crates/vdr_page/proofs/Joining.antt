-- A page in the pieces in which it is printed.
use Rattle.std.proofs.Common.{◌≡◌, ℕ, List, ◌++◌, ap, ◌∙◌, sym, append_assoc}
use Rattle.vdr_visit.specs.Prints.{text_of}
use Rattle.vdr_page.specs.Fronts.{front_rows}
use Rattle.vdr_page.specs.Laws.{PageIsPrinted}
use Rattle.vdr_page.specs.Pages.{closing_rows, data_block, front_text, last_lines, line_at, page_text}
use Rattle.vdr_page.specs.Surveys.{survey_of}
use Rattle.vdr_page.specs.Template.{template_head, template_tail}

-- five texts, one after the other
five : (h f l c t : List ℕ) → (h ++ ((f ++ l) ++ c)) ++ t ≡ (h ++ f) ++ (l ++ (c ++ t))
five h f l c t =
    append_assoc h ((f ++ l) ++ c) t ∙ ap (λ (x : List ℕ). h ++ x) (append_assoc (f ++ l) c t ∙ append_assoc f l (c ++ t)) ∙ sym (append_assoc h f (l ++ (c ++ t)))

pub front_is : (head page saves one two three : List ℕ) → one ≡ head → two ≡ one ++ page → three ≡ two ++ saves → three ≡ head ++ (page ++ saves)
front_is head page saves one two three one_is two_is three_is =
    three_is ∙ ap (λ (t : List ℕ). t ++ saves) (two_is ∙ ap (λ (t : List ℕ). t ++ page) one_is) ∙ append_assoc head page saves

pub page_is_printed : PageIsPrinted
unfolding page_text data_block front_text last_lines
page_is_printed words saves records =
    let s = survey_of records in
    five template_head (front_rows words s saves) (text_of (line_at s) records) (closing_rows s records) template_tail
