-- A conversion is made, moved into the room, and lent to `open` with the words.
use Rattle.navbridge_c.proofs.Steps.{◌≡◌, ℕ, [], ◌∷◌, ◌++◌, map, refl, w32, proved, full_share, id⊢, Lft, GName, ftrue, flft, flent, named, vptr, WpFn, fact, tables, ‵, raw, ◌⊛◌, some, later, prop, ◌$◌, ◌∵◌, !, qed, done, move, keep, drop, use1, use2, use3, split, join, fsplit, fjoin, fpack, pick, await, regoal, suffices, group, enter, of_opd, addr, stop, no_more, and_then, assigns, init, returns, alloc_all, pass_all, free_all, look_at, get, through, sets, lands_as, part_in, Body, lft_new, lft_end, u8, u32, yes, Is, shows, lends_ref, ref_back, mem, part_at, uint_Lawful, Ptr, RawPtr, block_ptr, room_at, in_a_block, rawptr_vals, rawptr_Tells, MutRef, plain, shr_slice_of, ShrSlice, shr_slice_vals, shr_slice_Tells, nothing, heard, peeks, calls_at, lasts, triple_of, Stays, walk_of, stay_dropped, Goes-dropped, ends_at, framed, heap_val, heap_Tells, Heap, heap_laws, PushState, P, push_laws, fsep, fex}
use Rattle.c_calls.specs.Pushes.{Opens, closed}
use Rattle.navbridge_c.specs.contracts.push.nb_push_open as f
use Rattle.navbridge_c.proofs.push.nb_push_open.Statement.{statement}
use Rattle.navbridge_c.proofs.push.nb_push_open.Code as code
use Rattle.c_calls.specs.contracts.push.new as made
use Rattle.c_calls.proofs.push.new.Met as new_met
use Rattle.c_calls.specs.contracts.push.open as g
use Rattle.c_calls.proofs.push.open.Met.{met}

abbrev stayed : Stays f.ended.signature.params f.ended.kept
stayed = (stay_dropped _ yes, (stay_dropped _ yes, (stay_dropped _ yes, tt)))

pub nb_push_open_spec : {M : Type 1} → statement M
nb_push_open_spec 𝓤 𝓛 𝓜 𝓡 wired =
    let c = f.clauses 𝓛 𝓜.mem 𝓡.returns in let W = walk_of 𝓛 f.ended stayed c in let 𝓣 = tables 𝓤 𝓛.H 𝓜 𝓡 𝓡.env in
    proved 𝓛 f.ended stayed c 𝓜 𝓡 (
      Goes-dropped 𝓛 2 (plain (λ _. RawPtr)) yes (λ κs x w. refl),
      (
        Goes-dropped 𝓛 2 (plain (λ _. Heap)) yes (λ κs x w. refl),
        (Goes-dropped 𝓛 2 (shr_slice_of (0 ∷ []) tt (shr_slice_of (1 ∷ []) tt (plain (λ _. u8)))) yes (λ κs x w. refl), tt),
      ),
    )
    f.Key.name code.function (code.unfolded 𝓤 𝓛.H 𝓜 𝓡 wired)
    (λ κs. (rawptr_vals, ((λ _. heap_val ∷ []), (shr_slice_vals, tt)))) (λ κs. (rawptr_Tells, (heap_Tells, (shr_slice_Tells (named 0) κs.0 (ShrSlice (named 1) κs.1.0 u8), tt)))) (λ κs qs bounds a n are.
    let alloc = a.1.0 in let words = a.1.1.0 in
    let y : Ptr → W.Ghost = λ p. ((κs, qs, bounds, (p, (alloc, (words, tt))), (rawptr_vals p, (heap_val ∷ [], (shr_slice_vals words, tt)))), n) in
    qed 𝓛 (((‵ (flft κs.0 qs.0) ⊛ ‵ (flft κs.1.0 qs.1.0) ⊛ ‵ ftrue) ⊛ ‵ (RawPtr.own_val a.0 (rawptr_vals a.0)) ⊛ ‵ (Heap.own_val alloc (heap_val ∷ []))
    ⊛ ‵ ((ShrSlice (named 0) κs.0 (ShrSlice (named 1) κs.1.0 u8)).own_val words (shr_slice_vals words)) ⊛ ‵ ftrue) ∷ ‵ (room_at P a.0) ∷ []) ∵
    split ! $ split ! $ move ! (1 ∷ []) $ split ! $ move ! (3 ∷ []) $ split ! $ drop ! $ split ! $ move ! (1 ∷ []) $ split ! $ keep ! (6 ∷ 0 ∷ 2 ∷ 5 ∷ 3 ∷ []) $
    in_a_block ! a.0 (λ p. room_at P p) (id⊢ 𝓤 _) (λ b o e.
    regoal ! (λ p. prop (WpFn 𝓤 𝓛.H 𝓣.C 𝓣.Λ code.function (rawptr_vals p ++ (heap_val ∷ shr_slice_vals words)) (W.post (y p)))) e refl $
    enter ! _ _ _ _ _ $ alloc_all ! (λ l. pass_all ! refl ((tt, tt), (((heap_laws.lawful 𝓛).typed alloc _ are.1.0).0, ((tt, (tt, (record { fits = are.1.1.0.0.1.0 }, tt))), tt))) $
    -- [the room; the words; the allocator; two tokens; the locals]
    sets ! (of_opd ! (get ! refl)) refl (tt, tt) $
    let G1 = triple_of 𝓛 made.signature (made.spec 𝓛 𝓜.mem 𝓡.returns) in
    let z1 : G1.Ghost = ((tt, tt, tt, (alloc, tt), (heap_val ∷ [], tt)), tt) in
    nothing ! $ move ! (3 ∷ 0 ∷ []) $ join ! $ nothing ! $ join ! $ nothing ! $ move ! (1 ∷ 0 ∷ []) $ use2 𝓛 (raw (G1.pre z1)) (id⊢ 𝓤 _) $
    calls_at ! (framed 𝓤 𝓛.H 𝓜 (tables 𝓤 𝓛.H 𝓜 𝓡 𝓡.env)) G1 (new_met.met 𝓤 𝓛 𝓜 𝓡 (code.calls-c_calls::push::new 𝓡.env wired)) z1 (and_then ! (get ! refl) (no_more !)) (λ v.
    use1 𝓛 (later (some (λ (r : PushState). (‵ ftrue ⊛ ‵ (P.own_val r (v ∷ []))) ⊛
    some (λ (ws : Unit {0} × Unit {0}). ‵ (lasts made.ended z1.0.0 z1.0.3 ws) ⊛ raw (fact 𝓤 (r ≡ closed)))))) (id⊢ 𝓤 _) $
    await ! tt $ pick ! (λ r. split ! $ split ! $ drop ! $ move ! (1 ∷ []) $ pick ! (λ ws. split ! $ drop ! $ heard ! _ (λ is.
    peeks ! P (Is P) (shows 𝓛 P) r (v ∷ []) (λ shown. let typed = ((push_laws.lawful 𝓛).typed r (v ∷ []) shown).0 in
    lands_as ! refl refl typed $
    assigns ! (of_opd ! (get ! refl)) (through ! refl (stop !)) (init ! 1 refl typed) $
    move ! (1 ∷ 0 ∷ []) $ use2 𝓛 (‵ (part_at P full_share r b o)) (part_in 𝓛 P refl full_share r b o v) $
    -- [what was made; the words; two tokens; the locals]
    sets ! (addr ! (through ! refl (stop !))) refl (tt, tt) $
    lft_new ! tt (λ α. let κ : Lft = α ∷ [] in move ! (1 ∷ []) $
    use1 𝓛 (later (some (λ (γ : GName). ‵ ((MutRef (named 0) κ P).own_val (record { ref_ptr = (b, o); ghost_name = γ; now = r }) (vptr b o ∷ [])) ⊛ ‵ (flent κ (Body (mem P) b o γ)))))
    (lends_ref 𝓛 P (named 0) κ r b o) $ await ! tt $ pick ! (λ γ. split ! $
    -- [the loan; what the lender keeps; the token of α; the words; two tokens]
    let G = triple_of 𝓛 g.signature (g.spec 𝓛 𝓜.mem 𝓡.returns) in
    let z : G.Ghost = (((κ, κs), (full_share, qs), bounds, (record { ref_ptr = (b, o); ghost_name = γ; now = r }, (words, tt)), (vptr b o ∷ [], (shr_slice_vals words, tt))), tt) in
    nothing ! $ move ! (4 ∷ 0 ∷ []) $ join ! $ move ! (1 ∷ 0 ∷ []) $ join ! $ nothing ! $ move ! (5 ∷ 0 ∷ []) $ join ! $ move ! (4 ∷ 0 ∷ []) $ join ! $ move ! (3 ∷ 0 ∷ []) $ join ! $ join ! $
    nothing ! $ move ! (1 ∷ 0 ∷ []) $ use2 𝓛 (raw (G.pre z)) (id⊢ 𝓤 _) $
    calls_at ! (framed 𝓤 𝓛.H 𝓜 (tables 𝓤 𝓛.H 𝓜 𝓡 𝓡.env)) G (met 𝓤 𝓛 𝓜 𝓡 (code.calls-c_calls::push::open 𝓡.env wired)) z
    (and_then ! (get ! refl) (and_then ! (get ! refl) (no_more !))) (λ v'.
    use1 𝓛 (later (some (λ (answer : ℕ). ((‵ (flft κ full_share) ⊛ ‵ (flft κs.0 qs.0) ⊛ ‵ (flft κs.1.0 qs.1.0) ⊛ ‵ ftrue) ⊛ ‵ (u32.own_val answer (v' ∷ []))) ⊛
    some (λ (last : PushState × (Unit {0} × Unit {0})). ‵ (lasts g.ended z.0.0 z.0.3 last) ⊛ raw (fact 𝓤 (Opens (map (λ word. word.now) words.now) last.0 answer)))))) (id⊢ 𝓤 _) $
    await ! tt $ pick ! (λ answer. split ! $ split ! $ split ! $ lft_end ! tt $ move ! (3 ∷ []) $ pick ! (λ last. split ! $ move ! (1 ∷ []) $
    heard ! _ (λ opens. fsplit ! $ fsplit ! $
    -- [its last value; its borrow; nothing; α is over; the tokens; the answer; what the lender keeps]
    move ! (3 ∷ 6 ∷ 0 ∷ []) $ use3 𝓛 (later (‵ (part_at P full_share last.0 b o))) (ref_back 𝓛 P κ γ last.0 b o) $ await ! tt $
    move ! (4 ∷ []) $ peeks ! u32 (Is u32) (shows 𝓛 u32) answer (v' ∷ []) (λ shown'. lands_as ! refl refl ((uint_Lawful 𝓛 w32).typed answer _ shown').0 $
    returns ! (look_at ! 0 refl) $ free_all ! refl $ keep ! (1 ∷ 4 ∷ 0 ∷ []) $
    nothing ! $ fpack ! (Opens (map (λ word. word.now) words.now) last.0 answer) (λ _. ftrue) opens $ move ! (1 ∷ 0 ∷ []) $ fjoin ! $
    fpack ! PushState (λ it. fsep (part_at P full_share it b o) (fex (Opens (map (λ word. word.now) words.now) it answer) (λ _. ftrue))) last.0 $
    move ! (1 ∷ 2 ∷ 0 ∷ []) $
    suffices ! _ (ends_at 𝓛 f.ended stayed c (y (block_ptr b o)) v' answer (tt, (tt, (tt, tt))) (tt, (tt, (tt, tt)))) $
    nothing ! $ nothing ! $ join ! $ nothing ! $ join ! $ nothing ! $ join ! $ move ! (1 ∷ 0 ∷ []) $ group ! 3 $ done !)))))))))))))))
