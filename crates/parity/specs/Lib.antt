pub mod CoaxRecipes
