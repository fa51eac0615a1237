-- What is told of media, from what reading them ensures; and by exclusion, that what can be opened is told.
use Rattle.std.proofs.Common.{◌≡◌, inl, inr, ℕ, refl}
use Rattle.vdr_media.specs.Formatted.{IsFormatted, IsUnformatted}
use Rattle.vdr_opening.specs.Media.{Contents, HoldsParts}
use Rattle.vdr_opening.specs.Refusals.{IsRefused}
use Rattle.vdr_opening.specs.declared.refused.OpenRefused.{OpenRefused}
use Rattle.vdr_opening.specs.declared.refused.OpenRefused.TheVariants as openings
use Rattle.vdr_info.specs.Infos.{InfoState, OpensInfo}
use Rattle.vdr_command.specs.Opened.{IsUntouched, OneAnswer}
use Rattle.vdr_command.specs.Outside.{MediaFailed, OutputFailed, Outside, Prints, PrintsFront}
use Rattle.vdr_command.specs.Statuses.{status_of_opening}
use Rattle.vdr_command.specs.declared.status.Status.TheVariants.{Done, OutputFault, NoMemory}
use Rattle.vdr_command.proofs.OpenedCompleteness.{damaged_refused, memory_refused, opened_refused, unformatted_refused}
use Rattle.vdr_readout.specs.Informs.{Informs, info_text}

module _ {tells tells_images : Type 0} (old new : Outside tells tells_images) (law : OneAnswer old.media.disk.reads)
    (formatted : (x : Contents) → HoldsParts old.media.disk.reads x → IsUnformatted old.media.disk.reads → ⊥) (untouched : IsUntouched old.media.disk new.media.disk) where
  -- There was no memory.
  pub memory_informs : new.output ≡ old.output → Informs old new NoMemory
  memory_informs same = record {
    own = tt;
    printed = λ done. absurd done;
    unformatted = λ e. let none : ⊥ = cc in absurd none;
    damaged = tt;
    fault = λ e. let none : ⊥ = cc in absurd none;
    output = λ e. let none : ⊥ = cc in absurd none;
    silent = inr same;
    untouched = untouched;
    complete = λ nothing t. record { refused = memory_refused old.media.disk.reads; done = λ x holds meet. tt };
  }

  -- The media were not opened.
  pub refused_informs : (refused : OpenRefused) → new.output ≡ old.output → (refused ≡ openings.NotFormatted → tells → IsUnformatted old.media.disk.reads)
      → ((m offset : ℕ) → refused ≡ openings.Damaged m offset → tells → IsFormatted old.media.disk.reads × IsRefused old.media.disk.reads m offset)
      → (refused ≡ openings.Fault → MediaFailed old.media new.media) → Informs old new (status_of_opening refused)
  refused_informs openings.NoMemory same unformatted damaged fault = memory_informs same
  refused_informs openings.NotFormatted same unformatted damaged fault = record {
    own = tt;
    printed = λ done. absurd done;
    unformatted = λ e. unformatted refl;
    damaged = tt;
    fault = λ e. let none : ⊥ = cc in absurd none;
    output = λ e. let none : ⊥ = cc in absurd none;
    silent = inr same;
    untouched = untouched;
    complete = λ nothing t. record { refused = unformatted_refused old.media.disk.reads (unformatted refl t); done = λ x holds meet. absurd (formatted x holds (unformatted refl t)) };
  }
  refused_informs (openings.Damaged m offset) same unformatted damaged fault = record {
    own = tt;
    printed = λ done. absurd done;
    unformatted = λ e. let none : ⊥ = cc in absurd none;
    damaged = damaged m offset refl;
    fault = λ e. let none : ⊥ = cc in absurd none;
    output = λ e. let none : ⊥ = cc in absurd none;
    silent = inr same;
    untouched = untouched;
    complete = λ nothing t.
        let r = damaged m offset refl t in
        record { refused = damaged_refused old.media.disk.reads law m offset r.0 r.1; done = λ x holds meet. absurd (law.opens x m offset holds meet r.1) };
  }
  refused_informs openings.Fault same unformatted damaged fault = record {
    own = tt;
    printed = λ done. absurd done;
    unformatted = λ e. let none : ⊥ = cc in absurd none;
    damaged = tt;
    fault = λ e. fault refl;
    output = λ e. let none : ⊥ = cc in absurd none;
    silent = inr same;
    untouched = untouched;
    complete = λ nothing t. absurd (nothing.media (fault refl));
  }

  -- They were, and are told.
  module _ (info : InfoState) (opened : tells → OpensInfo info old.media.disk old.media.bytes_read new.media.bytes_read) where
    pub done_informs : Prints (info_text info) old.output new.output → Informs old new Done
    done_informs text = record {
      own = tt;
      printed = λ done t. record { info = info; opened = opened t; text = text };
      unformatted = λ e. let none : ⊥ = cc in absurd none;
      damaged = tt;
      fault = λ e. let none : ⊥ = cc in absurd none;
      output = λ e. let none : ⊥ = cc in absurd none;
      silent = inl tt;
      untouched = untouched;
      complete = λ nothing t. let o = opened t in record { refused = opened_refused old.media.disk.reads law Done o.formatted o.parts o.holds o.meet; done = λ x holds meet. tt };
    }

    pub failed_informs : PrintsFront (info_text info) old.output new.output → OutputFailed old.output new.output → Informs old new OutputFault
    failed_informs text failed = record {
      own = tt;
      printed = λ done t. record { info = info; opened = opened t; text = text };
      unformatted = λ e. let none : ⊥ = cc in absurd none;
      damaged = tt;
      fault = λ e. let none : ⊥ = cc in absurd none;
      output = λ e. failed;
      silent = inl tt;
      untouched = untouched;
      complete = λ nothing t. absurd (nothing.output failed);
    }
