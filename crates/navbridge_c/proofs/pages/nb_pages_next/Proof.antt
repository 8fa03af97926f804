-- What lies at the pointer is lent to `next`, which is handed the page, and comes back as it is left.
use Rattle.navbridge_c.proofs.Steps.{ℕ, [], ◌∷◌, ◌++◌, refl, w32, proved, full_share, id⊢, Lft, GName, ftrue, fsep, fex, flft, flent, named, vptr, WpFn, fact, tables, ‵, raw, ◌⊛◌, some, later, prop, ◌$◌, ◌∵◌, !, qed, done, move, keep, drop, use1, use2, use3, split, join, fsplit, fjoin, fpack, pick, await, regoal, suffices, group, enter, of_opd, addr, stop, no_more, and_then, returns, alloc_all, pass_all, free_all, look_at, get, through, sets, lands_as, Body, lft_new, lft_end, u32, yes, Is, shows, lends_ref, ref_back, mem, part_at, uint_Lawful, Ptr, RawPtr, block_ptr, lies_at, in_a_block, rawptr_vals, rawptr_Tells, MutRef, mut_vals, mut_Tells, plain, nothing, heard, peeks, calls_at, lasts, triple_of, Stays, walk_of, stay_dropped, Goes-dropped, gave_ref, Goes-gave_ref, ends_at, framed, PagesState, Q}
use Rattle.c_calls.specs.PagePairs.{GivesPage}
use Rattle.navbridge_c.specs.contracts.pages.nb_pages_next as f
use Rattle.navbridge_c.proofs.pages.nb_pages_next.Statement.{statement}
use Rattle.navbridge_c.proofs.pages.nb_pages_next.Code as code
use Rattle.c_calls.specs.contracts.state_pages.next as g
use Rattle.c_calls.proofs.state_pages.next.Met.{met}
use Rattle.c_calls.specs.declared.state_pages.JoinedPage.{JoinedPage}
use Rattle.c_calls.specs.contracts.state_pages.JoinedPage.{the_row as J}

abbrev stayed : Stays f.ended.signature.params f.ended.kept
stayed = (stay_dropped _ yes, (gave_ref (0 ∷ []) tt (plain (λ _. J)), tt))

pub nb_pages_next_spec : {M : Type 1} → statement M
nb_pages_next_spec 𝓤 𝓛 𝓜 𝓡 wired =
    let c = f.clauses 𝓛 𝓜.mem 𝓡.returns in let W = walk_of 𝓛 f.ended stayed c in let 𝓣 = tables 𝓤 𝓛.H 𝓜 𝓡 𝓡.env in
    proved 𝓛 f.ended stayed c 𝓜 𝓡
    (Goes-dropped 𝓛 1 (plain (λ _. RawPtr)) yes (λ κs x w. refl), (Goes-gave_ref 𝓛 1 0 tt (plain (λ _. J)), tt))
    f.Key.name code.function (code.unfolded 𝓤 𝓛.H 𝓜 𝓡 wired)
    (λ κs. (rawptr_vals, (mut_vals, tt))) (λ κs. (rawptr_Tells, (mut_Tells (named 0) κs.0 J, tt))) (λ κs qs bounds a n are.
    let page = a.1.0 in
    let y : Ptr → W.Ghost = λ p. ((κs, qs, bounds, (p, (page, tt)), (rawptr_vals p, (mut_vals page, tt))), n) in
    qed 𝓛 (((‵ (flft κs.0 qs.0) ⊛ ‵ ftrue) ⊛ ‵ (RawPtr.own_val a.0 (rawptr_vals a.0)) ⊛ ‵ ((MutRef (named 0) κs.0 J).own_val page (mut_vals page)) ⊛ ‵ ftrue) ∷
    ‵ (lies_at Q full_share a.0 n) ∷ []) ∵ split ! $ split ! $ move ! (2 ∷ []) $ split ! $ drop ! $ split ! $ keep ! (4 ∷ 0 ∷ 2 ∷ []) $
    in_a_block ! a.0 (λ p. lies_at Q full_share p n) (id⊢ 𝓤 _) (λ b o e.
    regoal ! (λ p. prop (WpFn 𝓤 𝓛.H 𝓣.C 𝓣.Λ code.function (rawptr_vals p ++ mut_vals page) (W.post (y p)))) e refl $
    enter ! _ _ _ _ _ $ alloc_all ! (λ l. pass_all ! refl ((tt, tt), ((tt, tt), tt)) $
    -- [the page parts; the page; its token; the locals]
    sets ! (of_opd ! (get ! refl)) refl (tt, tt) $
    sets ! (addr ! (through ! refl (stop !))) refl (tt, tt) $
    sets ! (addr ! (through ! refl (stop !))) refl (tt, tt) $
    lft_new ! tt (λ α. let κ : Lft = α ∷ [] in move ! (1 ∷ []) $
    use1 𝓛 (later (some (λ (γ : GName). ‵ ((MutRef (named 0) κ Q).own_val (record { ref_ptr = (b, o); ghost_name = γ; now = n }) (vptr b o ∷ [])) ⊛ ‵ (flent κ (Body (mem Q) b o γ)))))
    (lends_ref 𝓛 Q (named 0) κ n b o) $ await ! tt $ pick ! (λ γ. split ! $
    -- [the loan; what the lender keeps; the token of α; the page; its token]
    let G = triple_of 𝓛 g.signature (g.spec 𝓛 𝓜.mem 𝓡.returns) in
    let z : G.Ghost = (((κ, (κs.0, tt)), (full_share, (qs.0, tt)), tt, (record { ref_ptr = (b, o); ghost_name = γ; now = n }, (page, tt)), (vptr b o ∷ [], (mut_vals page, tt))), tt) in
    nothing ! $ move ! (4 ∷ 0 ∷ []) $ join ! $ move ! (1 ∷ 0 ∷ []) $ join ! $ nothing ! $ move ! (4 ∷ 0 ∷ []) $ join ! $ move ! (3 ∷ 0 ∷ []) $ join ! $ join ! $
    nothing ! $ move ! (1 ∷ 0 ∷ []) $ use2 𝓛 (raw (G.pre z)) (id⊢ 𝓤 _) $
    calls_at ! (framed 𝓤 𝓛.H 𝓜 (tables 𝓤 𝓛.H 𝓜 𝓡 𝓡.env)) G (met 𝓤 𝓛 𝓜 𝓡 (code.calls-c_calls::state_pages::next 𝓡.env wired)) z
    (and_then ! (get ! refl) (and_then ! (get ! refl) (no_more !))) (λ v.
    use1 𝓛 (later (some (λ (r : ℕ). ((‵ (flft κ full_share) ⊛ ‵ (flft κs.0 qs.0) ⊛ ‵ ftrue) ⊛ ‵ (u32.own_val r (v ∷ []))) ⊛
    some (λ (ws : PagesState × (JoinedPage × Unit {0})). ‵ (lasts g.ended z.0.0 z.0.3 ws) ⊛ raw (fact 𝓤 (GivesPage n ws.0 page.now ws.1.0 n.words r)))))) (id⊢ 𝓤 _) $
    await ! tt $ pick ! (λ r. split ! $ split ! $ split ! $ lft_end ! tt $ move ! (3 ∷ []) $ pick ! (λ ws. split ! $ move ! (1 ∷ []) $
    heard ! _ (λ is. fsplit ! $ fsplit ! $
    -- [its last value; its borrow; what is left of the page; α is over; the page's token; the result; what the lender keeps]
    move ! (3 ∷ 6 ∷ 0 ∷ []) $ use3 𝓛 (later (‵ (part_at Q full_share ws.0 b o))) (ref_back 𝓛 Q κ γ ws.0 b o) $ await ! tt $
    move ! (4 ∷ []) $ peeks ! u32 (Is u32) (shows 𝓛 u32) r (v ∷ []) (λ shown. lands_as ! refl refl ((uint_Lawful 𝓛 w32).typed r _ shown).0 $
    returns ! (look_at ! 0 refl) $ free_all ! refl $ keep ! (1 ∷ 3 ∷ 4 ∷ 0 ∷ []) $
    nothing ! $ fpack ! (GivesPage n ws.0 page.now ws.1.0 n.words r) (λ _. ftrue) is $ move ! (1 ∷ 0 ∷ []) $ fjoin ! $
    fpack ! PagesState (λ new. fsep (part_at Q full_share new b o) (fex (GivesPage n new page.now ws.1.0 n.words r) (λ _. ftrue))) ws.0 $ move ! (1 ∷ 2 ∷ 3 ∷ 0 ∷ []) $
    fsplit ! $
    -- [what the page holds; nothing; its token; the result; the page parts]
    suffices ! _ (ends_at 𝓛 f.ended stayed c (y (block_ptr b o)) v r (tt, (ws.1.0, tt)) (tt, (tt, tt))) $
    join ! $ nothing ! $ join ! $ move ! (1 ∷ 0 ∷ []) $ group ! 3 $ done !))))))))))
