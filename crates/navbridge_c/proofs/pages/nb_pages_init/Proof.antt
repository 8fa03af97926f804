-- Page parts are made, and moved into the room.
use Rattle.navbridge_c.proofs.Steps.{[], ◌∷◌, ◌++◌, refl, w32, proved, full_share, id⊢, ftrue, fsep, fex, vunit, WpFn, fact, tables, ‵, raw, ◌⊛◌, some, later, prop, ◌$◌, ◌∵◌, !, qed, done, move, keep, drop, use1, use2, split, join, fjoin, fpack, feq_i, pick, await, regoal, suffices, group, enter, of_opd, unit_lit, stop, no_more, and_then, assigns, init, returns, alloc_all, pass_all, free_all, look_at, get, through, sets, lands_as, part_in, u32, yes, Is, shows, part_at, uint_vals, uint_Tells, Ptr, RawPtr, block_ptr, room_at, in_a_block, rawptr_vals, rawptr_Tells, plain, nothing, heard, peeks, calls_at, lasts, triple_of, Stays, walk_of, stay_dropped, Goes-dropped, ends_at, framed, heap_val, heap_Tells, Heap, heap_laws, PagesState, Q, pages_laws}
use Rattle.c_calls.specs.PagePairs.{IsEmpty}
use Rattle.navbridge_c.specs.contracts.pages.nb_pages_init as f
use Rattle.navbridge_c.proofs.pages.nb_pages_init.Statement.{statement}
use Rattle.navbridge_c.proofs.pages.nb_pages_init.Code as code
use Rattle.c_calls.specs.contracts.state_pages.new as g
use Rattle.c_calls.proofs.state_pages.new.Met.{met}

abbrev stayed : Stays f.ended.signature.params f.ended.kept
stayed = (stay_dropped _ yes, (stay_dropped _ yes, (stay_dropped _ yes, tt)))

pub nb_pages_init_spec : {M : Type 1} → statement M
nb_pages_init_spec 𝓤 𝓛 𝓜 𝓡 wired =
    let c = f.clauses 𝓛 𝓜.mem 𝓡.returns in let W = walk_of 𝓛 f.ended stayed c in let 𝓣 = tables 𝓤 𝓛.H 𝓜 𝓡 𝓡.env in
    proved 𝓛 f.ended stayed c 𝓜 𝓡
    (Goes-dropped 𝓛 0 (plain (λ _. RawPtr)) yes (λ κs x w. refl), (Goes-dropped 𝓛 0 (plain (λ _. Heap)) yes (λ κs x w. refl), (Goes-dropped 𝓛 0 (plain (λ _. u32)) yes (λ κs x w. refl), tt)))
    f.Key.name code.function (code.unfolded 𝓤 𝓛.H 𝓜 𝓡 wired)
    (λ κs. (rawptr_vals, ((λ _. heap_val ∷ []), (uint_vals w32, tt)))) (λ κs. (rawptr_Tells, (heap_Tells, (uint_Tells w32, tt)))) (λ κs qs bounds a n are.
    let alloc = a.1.0 in let window = a.1.1.0 in
    let y : Ptr → W.Ghost = λ p. ((κs, qs, bounds, (p, (alloc, (window, tt))), (rawptr_vals p, (heap_val ∷ [], (uint_vals w32 window, tt)))), n) in
    qed 𝓛 ((‵ ftrue ⊛ ‵ (RawPtr.own_val a.0 (rawptr_vals a.0)) ⊛ ‵ (Heap.own_val alloc (heap_val ∷ [])) ⊛ ‵ (u32.own_val window (uint_vals w32 window)) ⊛ ‵ ftrue) ∷ ‵ (room_at Q a.0) ∷ []) ∵
    split ! $ drop ! $ split ! $ drop ! $ split ! $ move ! (1 ∷ []) $ split ! $ keep ! (3 ∷ 2 ∷ 0 ∷ []) $
    in_a_block ! a.0 (λ p. room_at Q p) (id⊢ 𝓤 _) (λ b o e.
    regoal ! (λ p. prop (WpFn 𝓤 𝓛.H 𝓣.C 𝓣.Λ code.function (rawptr_vals p ++ (heap_val ∷ uint_vals w32 window)) (W.post (y p)))) e refl $
    enter ! _ _ _ _ _ $ alloc_all ! (λ l. pass_all ! refl ((tt, tt), (((heap_laws.lawful 𝓛).typed alloc _ are.1.0).0, ((tt, record { fits = are.1.1.0.1 }), tt))) $
    -- [the room; the allocator; the window; the locals]
    sets ! (of_opd ! (get ! refl)) refl (tt, tt) $
    let G = triple_of 𝓛 g.signature (g.spec 𝓛 𝓜.mem 𝓡.returns) in
    let z : G.Ghost = ((tt, tt, tt, (alloc, (window, tt)), (heap_val ∷ [], (uint_vals w32 window, tt))), tt) in
    nothing ! $ move ! (3 ∷ 0 ∷ []) $ join ! $ move ! (2 ∷ 0 ∷ []) $ join ! $ nothing ! $ join ! $ nothing ! $ move ! (1 ∷ 0 ∷ []) $ use2 𝓛 (raw (G.pre z)) (id⊢ 𝓤 _) $
    calls_at ! (framed 𝓤 𝓛.H 𝓜 (tables 𝓤 𝓛.H 𝓜 𝓡 𝓡.env)) G (met 𝓤 𝓛 𝓜 𝓡 (code.calls-c_calls::state_pages::new 𝓡.env wired)) z (and_then ! (get ! refl) (and_then ! (get ! refl) (no_more !))) (λ v.
    use1 𝓛 (later (some (λ (r : PagesState). (‵ ftrue ⊛ ‵ (Q.own_val r (v ∷ []))) ⊛
    some (λ (ws : Unit {0} × (Unit {0} × Unit {0})). ‵ (lasts g.ended z.0.0 z.0.3 ws) ⊛ raw (fact 𝓤 (IsEmpty r window)))))) (id⊢ 𝓤 _) $
    await ! tt $ pick ! (λ r. split ! $ split ! $ drop ! $ move ! (1 ∷ []) $ pick ! (λ ws. split ! $ drop ! $ heard ! _ (λ is.
    -- [what was made; the room; the locals]
    peeks ! Q (Is Q) (shows 𝓛 Q) r (v ∷ []) (λ shown. let typed = ((pages_laws.lawful 𝓛).typed r (v ∷ []) shown).0 in
    lands_as ! refl refl typed $
    assigns ! (of_opd ! (get ! refl)) (through ! refl (stop !)) (init ! 1 refl typed) $
    move ! (1 ∷ 0 ∷ []) $ use2 𝓛 (‵ (part_at Q full_share r b o)) (part_in 𝓛 Q refl full_share r b o v) $
    sets ! (of_opd ! (unit_lit !)) refl (tt, tt) $
    returns ! (look_at ! 0 refl) $ free_all ! refl $
    nothing ! $ fpack ! (IsEmpty r window) (λ _. ftrue) is $ move ! (1 ∷ 0 ∷ []) $ fjoin ! $
    fpack ! PagesState (λ new. fsep (part_at Q full_share new b o) (fex (IsEmpty new window) (λ _. ftrue))) r $
    suffices ! _ (ends_at 𝓛 f.ended stayed c (y (block_ptr b o)) vunit tt (tt, (tt, (tt, tt))) (tt, (tt, (tt, tt)))) $
    feq_i ! _ (vunit ∷ []) _ refl $ nothing ! $ nothing ! $ join ! $ nothing ! $ join ! $ nothing ! $ join ! $ nothing ! $ group ! 3 $ done !))))))))
