use Rattle.std.proofs.Common.{◌+◌, sym, subst}
use Rattle.std.specs.Prelude.{Option}
use Rattle.inav.specs.Keeping.{Words}
use Rattle.c_calls.specs.PagePairs.{GivesPage, PagesState}
use Rattle.c_calls.specs.Waiting.{words_in}
use Rattle.c_calls.proofs.PageLemmas.{gives, kept_at}
use Rattle.c_calls.proofs.state_pages.next.Goals as goal

pub returns : goal.returns
returns c =
    let s = c.state.inside in
    subst (λ (old : PagesState). GivesPage old (kept_at s.halves s.joined (s.given + 1)) c.args.page.now (record { page = c.page_of.result; stamp = c.stamp.result }) old.words 1) c.state.view_is
    (subst (λ (j : Option Words). GivesPage (kept_at s.halves j s.given) (kept_at s.halves j (s.given + 1)) c.args.page.now (record { page = c.page_of.result; stamp = c.stamp.result }) (words_in j s.given) 1)
    (sym c.in-Some.is)
    (gives s.halves c.in-Some.joined s.given c.word.result.now c.args.page.now c.page_of.result c.stamp.result c.word.ensures c.page_of.ensures c.stamp.ensures))
