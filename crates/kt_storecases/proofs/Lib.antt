mod OneKey
