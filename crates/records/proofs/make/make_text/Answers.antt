use Rattle.records.proofs.Refines.Making.{text_searchable, text-found, text-new}
use Rattle.records.proofs.make.make_text.Goals as goal

pub find_text_unchecked-t-requires : goal.find_text_unchecked-t-requires
find_text_unchecked-t-requires c =
    text_searchable _ _ _ _ c.requires.fact_1 c.requires.fact_2

pub returns-then-t-ne0 : goal.returns-then-t-ne0
returns-then-t-ne0 c =
    text-found c.requires.fact_1 _ c.requires.fact_2 _ _ c.find_text_unchecked-t.ensures c.if-t-ne0.true

pub append_text-requires : goal.append_text-requires
append_text-requires c =
    record {
      fact_1 = c.requires.fact_1;
      fact_2 = c.requires.fact_2;
    }

pub returns : goal.returns
returns c =
    text-new c.requires.fact_1 _ c.requires.fact_2 _ _ c.find_text_unchecked-t.ensures c.if-t-ne0.false c.append_text.ensures
