-- A deframer is made, and moved into the room.
use Rattle.navbridge_c.proofs.Steps.{◌≡◌, [], ◌∷◌, refl, proved, id⊢, full_share, ftrue, vunit, WpFn, fact, tables, ‵, raw, ◌⊛◌, some, later, prop, ◌$◌, ◌∵◌, !, qed, done, move, drop, use1, use2, split, join, feq_i, pick, await, rewrite, regoal, suffices, group, enter, of_opd, unit_lit, stop, no_more, assigns, init, returns, alloc_all, pass_all, free_all, look_at, get, through, sets, lands_as, part_in, yes, Is, shows, part_at, Ptr, RawPtr, block_ptr, room_at, in_a_block, rawptr_vals, rawptr_Tells, plain, nothing, heard, peeks, calls_at, lasts, on_entry, triple_of, Stays, walk_of, stay_dropped, Goes-dropped, ends_at, framed, DeframerState, R, the_row_laws}
use Rattle.c_calls.specs.Deframers.{fresh}
use Rattle.navbridge_c.specs.contracts.deframer.nb_deframer_init as f
use Rattle.navbridge_c.proofs.deframer.nb_deframer_init.Statement.{statement}
use Rattle.navbridge_c.proofs.deframer.nb_deframer_init.Code as code
use Rattle.c_calls.specs.contracts.deframer.new as g
use Rattle.c_calls.proofs.deframer.new.Met.{met}

abbrev stayed : Stays f.ended.signature.params f.ended.kept
stayed = (stay_dropped _ yes, tt)

pub nb_deframer_init_spec : {M : Type 1} → statement M
nb_deframer_init_spec 𝓤 𝓛 𝓜 𝓡 wired =
    let c = f.clauses 𝓛 𝓜.mem 𝓡.returns in let W = walk_of 𝓛 f.ended stayed c in let 𝓣 = tables 𝓤 𝓛.H 𝓜 𝓡 𝓡.env in
    proved 𝓛 f.ended stayed c 𝓜 𝓡 (Goes-dropped 𝓛 0 (plain (λ _. RawPtr)) yes (λ κs x w. refl), tt)
    f.Key.name code.function (code.unfolded 𝓤 𝓛.H 𝓜 𝓡 wired)
    (λ κs. (rawptr_vals, tt)) (λ κs. (rawptr_Tells, tt)) (λ κs qs bounds a n are.
    let y : Ptr → W.Ghost = λ p. ((κs, qs, bounds, (p, tt), (rawptr_vals p, tt)), n) in
    qed 𝓛 (raw (on_entry 𝓛 f.signature κs qs a (y a.0).0.4) ∷ ‵ (room_at R a.0) ∷ []) ∵ drop ! $
    in_a_block ! a.0 (λ p. room_at R p) (id⊢ 𝓤 _) (λ b o e.
    regoal ! (λ p. prop (WpFn 𝓤 𝓛.H 𝓣.C 𝓣.Λ code.function (rawptr_vals p) (W.post (y p)))) e refl $
    enter ! _ _ _ _ _ $ alloc_all ! (λ l. pass_all ! refl ((tt, tt), tt) $
    -- [the room; the locals]
    sets ! (of_opd ! (get ! refl)) refl (tt, tt) $
    let G = triple_of 𝓛 g.signature (g.spec 𝓛 𝓜.mem 𝓡.returns) in
    let z : G.Ghost = ((tt, tt, tt, tt, tt), tt) in
    nothing ! $ nothing ! $ join ! $ nothing ! $ move ! (1 ∷ 0 ∷ []) $ use2 𝓛 (raw (G.pre z)) (id⊢ 𝓤 _) $
    calls_at ! (framed 𝓤 𝓛.H 𝓜 (tables 𝓤 𝓛.H 𝓜 𝓡 𝓡.env)) G (met 𝓤 𝓛 𝓜 𝓡 (code.calls-c_calls::deframer::new 𝓡.env wired)) z (no_more !) (λ v.
    use1 𝓛 (later (some (λ (r : DeframerState). (‵ ftrue ⊛ ‵ (R.own_val r (v ∷ []))) ⊛
    some (λ (ws : Unit {0}). ‵ (lasts g.ended z.0.0 z.0.3 ws) ⊛ raw (fact 𝓤 (r ≡ fresh)))))) (id⊢ 𝓤 _) $
    await ! tt $ pick ! (λ r. split ! $ split ! $ drop ! $ move ! (1 ∷ []) $ pick ! (λ ws. split ! $ drop ! $ heard ! _ (λ is.
    rewrite ! 0 (λ (state : DeframerState). ‵ (R.own_val state (v ∷ []))) is refl $
    -- [what a fresh deframer owns; the room; the locals]
    peeks ! R (Is R) (shows 𝓛 R) fresh (v ∷ []) (λ shown. let typed = ((the_row_laws.lawful 𝓛).typed fresh (v ∷ []) shown).0 in
    lands_as ! refl refl typed $
    assigns ! (of_opd ! (get ! refl)) (through ! refl (stop !)) (init ! 1 refl typed) $
    move ! (1 ∷ 0 ∷ []) $ use2 𝓛 (‵ (part_at R full_share fresh b o)) (part_in 𝓛 R refl full_share fresh b o v) $
    sets ! (of_opd ! (unit_lit !)) refl (tt, tt) $
    returns ! (look_at ! 0 refl) $ free_all ! refl $
    suffices ! _ (ends_at 𝓛 f.ended stayed c (y (block_ptr b o)) vunit tt (tt, tt) (tt, tt)) $
    feq_i ! _ (vunit ∷ []) _ refl $ nothing ! $ nothing ! $ join ! $ nothing ! $ group ! 3 $ done !))))))))
