-- How commands end.
use Rattle.std.proofs.Common.{◌≡◌, ℕ, List, ◌++◌, sym, ap, ◌∙◌, subst, append_assoc}
use Rattle.std.specs.declared.option.Option.{Option}
use Rattle.std.specs.Io.KnownBytes.{Appends}
use Rattle.std.proofs.KnownBytes.{Appends-trans}
use Rattle.sg_base.specs.Causes.{Rose}
use Rattle.sg_outside.specs.Streams.{AppendsPart}
use Rattle.sg_endings.specs.Ends.{Ends, Finishes}

-- a part of a text behind another text
pub part_behind : (old mid new : Option (List ℕ)) (front text : List ℕ) → Appends old mid front → AppendsPart mid new text → AppendsPart old new (front ++ text)
part_behind old mid new front text before p = record {
  part = front ++ p.part;
  rest = p.rest;
  split = ap (λ (t : List ℕ). front ++ t) p.split ∙ sym (append_assoc front p.part p.rest);
  put = Appends-trans old mid new front p.part before p.put;
}

-- a part of a text is a part of a longer one
pub part_more : (old new : Option (List ℕ)) (text more : List ℕ) → AppendsPart old new text → AppendsPart old new (text ++ more)
part_more old new text more p = record {
  part = p.part;
  rest = p.rest ++ more;
  split = ap (λ (t : List ℕ). t ++ more) p.split ∙ append_assoc p.part p.rest more;
  put = p.put;
}

-- a last text behind others
pub stopped : (Output : ℕ → List ℕ → Type 0) (status : ℕ) (front text : List ℕ) (result : ℕ) (old mid new : Option (List ℕ)) (faults between faults' : ℕ)
    → Appends old mid front → between ≡ faults → Finishes status text result mid new between faults' → Output status (front ++ text) → Ends Output result old new faults faults'
stopped Output status front text result old mid new faults between faults' before same f out = record {
  done = λ fine. record {
    text = front ++ text;
    is = subst (λ (s : ℕ). Output s (front ++ text)) (sym (f.done fine).0) out;
    put = Appends-trans old mid new front text before (f.done fine).1;
  };
  quiet = λ fine. f.quiet fine ∙ same;
  write = λ five. record {
    rose = subst (λ (n : ℕ). Rose n faults') same (f.write five).0;
    status = status;
    text = front ++ text;
    is = out;
    put = part_behind old mid new front text before (f.write five).1;
  };
}

-- a last text alone
pub stopped_first : (Output : ℕ → List ℕ → Type 0) (status : ℕ) (text : List ℕ) (result : ℕ) (old new : Option (List ℕ)) (faults faults' : ℕ)
    → Finishes status text result old new faults faults' → Output status text → Ends Output result old new faults faults'
stopped_first Output status text result old new faults faults' f out = record {
  done = λ fine. record { text = text; is = subst (λ (s : ℕ). Output s text) (sym (f.done fine).0) out; put = (f.done fine).1 };
  quiet = f.quiet;
  write = λ five. record { rose = (f.write five).0; status = status; text = text; is = out; put = (f.write five).1 };
}

-- what is written, told in other words
pub retold : (P Q : ℕ → List ℕ → Type 0) (result : ℕ) (old new : Option (List ℕ)) (faults faults' : ℕ)
    → ((status : ℕ) (text : List ℕ) → P status text → Q status text) → Ends P result old new faults faults' → Ends Q result old new faults faults'
retold P Q result old new faults faults' tell e = record {
  done = λ fine. record { text = (e.done fine).text; is = tell result (e.done fine).text (e.done fine).is; put = (e.done fine).put };
  quiet = e.quiet;
  write = λ five. record {
    rose = (e.write five).rose;
    status = (e.write five).status;
    text = (e.write five).text;
    is = tell (e.write five).status (e.write five).text (e.write five).is;
    put = (e.write five).put;
  };
}
